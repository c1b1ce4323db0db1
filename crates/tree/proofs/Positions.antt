-- Children that fit one after the other fit place by place.
use Rattle.std.proofs.Common.{◌≡◌, ℕ, zero, suc, ◌+◌, ◌<◌, Bool, true, false, cond, eqb, List, [], ◌∷◌, length, get_or, sym, refl, ap, ◌∙◌, arith}
use Rattle.std.proofs.Math.Dec.{eqb-suc-suc}
use Rattle.std.proofs.lemmas.Bool.{and_from, and_parts, ne_eqb}
use Rattle.kinds.specs.declared.shape.Group.{Group}
use Rattle.kinds.specs.Shape.{first_child, has, last_child, later_child}
use Rattle.tree.specs.declared.row.Row.{Row}
use Rattle.tree.specs.Shaped.{ChildrenFitByPlace, each_fits, group_for, none_left}

cond_same : {A : Type 0} (b : Bool) (x : A) → cond b x x ≡ x
cond_same true x = refl
cond_same false x = refl

last_of : (k : ℕ) (ks : List ℕ) → none_left ks ≡ eqb (0 + 1) (length (k ∷ ks))
last_of k [] = refl
last_of k (l ∷ ls) = sym (ne_eqb (0 + 1) (suc (suc (length ls))) (λ e. omega arith))

module _ (r : Row) where
  abbrev later : Group
  later = later_child r.kind r.mark

  -- the group at place p, where the first child is to belong to this one
  abbrev placed : Group → ℕ → ℕ → Group
  placed group p n = group_for (last_child r.kind) (cond (eqb p 0) group later) (eqb (p + 1) n)

  abbrev EachAt : Group → List ℕ → Type 0
  EachAt group ks = (p : ℕ) → p < length ks → has (placed group p (length ks)) (get_or ks p 0) ≡ true

  next_place : (group : Group) (q n : ℕ) → placed group (suc q) (suc n) ≡ placed later q n
  next_place group q n =
      let up : suc q + 1 ≡ suc (q + 1) = omega arith in
      let e = ap (λ p. eqb p (suc n)) up ∙ eqb-suc-suc (q + 1) n in
      ap (λ t. group_for (last_child r.kind) (cond t group later) (eqb (suc q + 1) (suc n))) (ne_eqb (suc q) 0 (λ h. omega arith))
      ∙ ap (λ b. group_for (last_child r.kind) later b) e
      ∙ ap (λ g. group_for (last_child r.kind) g (eqb (q + 1) n)) (sym (cond_same (eqb q 0) later))

  places : (group : Group) (ks : List ℕ) → each_fits r group ks ≡ true → EachAt group ks
  places group [] e p h = absurd (omega arith)
  places group (k ∷ ks) e zero h = ap (λ b. has (group_for (last_child r.kind) group b) k) (sym (last_of k ks)) ∙ (and_parts _ _ e).0
  places group (k ∷ ks) e (suc q) h = ap (λ g. has g (get_or ks q 0)) (next_place group q (length ks)) ∙ places later ks (and_parts _ _ e).1 q (omega arith)

  fits : (group : Group) (ks : List ℕ) → EachAt group ks → each_fits r group ks ≡ true
  fits group [] e = refl
  fits group (k ∷ ks) e =
      and_from _ _ (ap (λ b. has (group_for (last_child r.kind) group b) k) (last_of k ks) ∙ e zero (omega arith))
      (fits later ks (λ q h. ap (λ g. has g (get_or ks q 0)) (sym (next_place group q (length ks))) ∙ e (suc q) (omega arith)))

pub children_fit_by_place : ChildrenFitByPlace
children_fit_by_place r ks = (
  (λ e. let h = and_parts _ _ e in (h.1, places r (first_child r.kind r.mark) ks h.0)),
  λ h. and_from _ _ (fits r (first_child r.kind r.mark) ks h.1) h.0,
)
