-- The walk from one row to the next.
use Rattle.std.proofs.Common.{◌≡◌, ℕ, ◌+◌, ◌<◌, ◌≤◌, Bool, true, false, cond, List, [], ◌∷◌, ◌++◌, length, sym, refl, ap, ◌∙◌, append_assoc}
use Rattle.tree.specs.declared.row.Row.{Row}
use Rattle.tree.specs.Forest.{Forest, Nested, children, end_at, forest, nil, node, row_at}
use Rattle.tree.proofs.Grown.{forest_none}
use Rattle.tree.proofs.Split.{append, forest_at, forest_on}
use Rattle.cjs_law.specs.Rows.{visit_at}
use Rattle.cjs_law.specs.Walk.{Visit, skips, walked}

walked_append : (f g : Forest) → walked (append f g) ≡ walked f ++ walked g
walked_append nil g = refl
walked_append (node j r ks rest) g =
    ap (λ l. record { number = j; row = r; kids = ks } ∷ (cond (skips r) [] (walked ks) ++ l)) (walked_append rest g)
    ∙ ap (λ l. record { number = j; row = r; kids = ks } ∷ l) (sym (append_assoc (cond (skips r) [] (walked ks)) (walked rest) (walked g)))

module _ (rs : List Row) (law : Nested rs) where
  -- the visits from row j on
  abbrev pub left : ℕ → List Visit
  left j = walked (forest rs j (length rs))

  left_by : (j : ℕ) → j < length rs → (t : Bool) → skips (row_at rs j) ≡ t → cond t [] (walked (children rs j)) ++ left (end_at rs j) ≡ left (cond t (end_at rs j) (j + 1))
  left_by j h true e = refl
  left_by j h false e = sym (walked_append (children rs j) (forest rs (end_at rs j) (length rs))) ∙ ap walked (sym (forest_on rs law j h))

  -- from row j on, the walk comes to row j, and then to what follows it
  pub left_on : (j : ℕ) → j < length rs → left j ≡ visit_at rs j ∷ left (cond (skips (row_at rs j)) (end_at rs j) (j + 1))
  left_on j h = ap walked (forest_at rs law j h) ∙ ap (λ l. visit_at rs j ∷ l) (left_by j h (skips (row_at rs j)) refl)

  pub left_none : (j : ℕ) → length rs ≤ j → left j ≡ []
  left_none j h = ap walked (forest_none rs law j (length rs) h)
