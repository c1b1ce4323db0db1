-- A row that takes the place of another of its key: the last of each key, kept as the first of the list turned round.
use Rattle.std.proofs.Common.{◌≡◌, ℕ, ◌⊎◌, List, [], ◌∷◌, ◌++◌, Ordering, Less, Equal, Greater, sym, refl, ap, ◌∙◌, subst, inl, inr, ⊎_elim}
use Rattle.std.specs.Ordering.{match_ordering}
use Rattle.table.specs.Table.{put_row}
use Rattle.text.specs.Reading.{order}
use Rattle.std.proofs.lemmas.Map.Lookups.{exact_bytes}
use Rattle.cjs_law.specs.Lists.{In, Lists, insert, insert_all}
use Rattle.table.specs.Totals.{numbers_total}
use Rattle.table.proofs.Rising.{ordered_entered}
use Rattle.cjs_law.proofs.Ascending.{Ascends, ascends_from}
use Rattle.cjs_law.proofs.Order.{greater_apart}
use Rattle.cjs_law.proofs.Listed.{above_in, above_less, not_own}

module _ {X : Type 0} (key : X → List ℕ) where
  abbrev put : X → List X → List X
  put a xs = put_row order key a xs

  -- x is a, or was there with another key; after `insert` a row may stand for a, so that members are told there by lemmas of their own
  abbrev Over : X → X → List X → Type 0
  Over x a xs = (x ≡ a) ⊎ ((key a ≡ key x → ⊥) × In x xs)

  over_more : (x a y : X) (ys : List X) → Over x a ys → Over x a (y ∷ ys)
  over_more x a y ys (inl q) = inl q
  over_more x a y ys (inr n) = inr (n.0, inr n.1)

  in_by : (x a y : X) (ys : List X) (o : Ordering) → order (key a) (key y) ≡ o → Ascends key (y ∷ ys) → (In x (put a ys) → Over x a ys) → In x (match_ordering o (a ∷ y ∷ ys) (a ∷ ys) (y ∷ put a ys)) → Over x a (y ∷ ys)
  in_by x a y ys Less e h f i = ⊎_elim (λ q. inl q)
      (λ j. inr ((λ q. not_own key (key a) x (sym q) (above_in key (key a) x (y ∷ ys) (e, above_less key (key a) (key y) ys e h.0) j)), j)) i
  in_by x a y ys Equal e h f i = ⊎_elim (λ q. inl q)
      (λ j. inr ((λ q. not_own key (key y) x (sym q ∙ exact_bytes (key a) (key y) e) (above_in key (key y) x ys h.0 j)), inr j)) i
  in_by x a y ys Greater e h f i = ⊎_elim
      (λ q. inr ((λ g. greater_apart (key a) (key y) e (g ∙ ap key q)), inl q)) (λ j. over_more x a y ys (f j)) i

  in_put : (x a : X) (xs : List X) → Ascends key xs → In x (put a xs) → Over x a xs
  in_put x a [] h i = ⊎_elim (λ q. inl q) (λ j. absurd j) i
  in_put x a (y ∷ ys) h i = in_by x a y ys (order (key a) (key y)) refl h (in_put x a ys h.1) i

  own_by : (a y : X) (ys : List X) (o : Ordering) → In a (put a ys) → In a (match_ordering o (a ∷ y ∷ ys) (a ∷ ys) (y ∷ put a ys))
  own_by a y ys Less i = inl refl
  own_by a y ys Equal i = inl refl
  own_by a y ys Greater i = inr i

  own_put : (a : X) (xs : List X) → In a (put a xs)
  own_put a [] = inl refl
  own_put a (y ∷ ys) = own_by a y ys (order (key a) (key y)) (own_put a ys)

  stays_by : (x a y : X) (ys : List X) (o : Ordering) → order (key a) (key y) ≡ o → (key a ≡ key x → ⊥) → (In x ys → In x (put a ys)) → In x (y ∷ ys) → In x (match_ordering o (a ∷ y ∷ ys) (a ∷ ys) (y ∷ put a ys))
  stays_by x a y ys Less e n f i = inr i
  stays_by x a y ys Equal e n f (inl q) = absurd (n (exact_bytes (key a) (key y) e ∙ ap key (sym q)))
  stays_by x a y ys Equal e n f (inr i) = inr i
  stays_by x a y ys Greater e n f (inl q) = inl q
  stays_by x a y ys Greater e n f (inr i) = inr (f i)

  stays_put : (x a : X) (xs : List X) → (key a ≡ key x → ⊥) → In x xs → In x (put a xs)
  stays_put x a [] n i = absurd i
  stays_put x a (y ∷ ys) n i = stays_by x a y ys (order (key a) (key y)) refl n (stays_put x a ys n) i

  pub put_more : (added xs : List X) (a : X) → Lists key added [] xs → Lists key (a ∷ added) [] (put a xs)
  put_more added xs a l = record {
    ascends = ordered_entered order key numbers_total (λ r x. r) (λ r x e. e) a xs l.ascends;
    exact = λ x. (
      (λ i. (⊎_elim (λ q. inl q) (λ n. inr (n.0, ((l.exact x).0 n.1).0)) (in_put x a xs (ascends_from key xs l.ascends) i), λ b. b)),
      (λ f. ⊎_elim (λ q. subst (λ z. In z (put a xs)) (sym q) (own_put a xs)) (λ n. stays_put x a xs n.0 ((l.exact x).1 (n.1, λ b. b))) f.0),
    );
  }

  pub insert_last : (rs : List X) (a : X) (xs : List X) → insert_all key (rs ++ a ∷ []) xs ≡ insert key a (insert_all key rs xs)
  insert_last [] a xs = refl
  insert_last (r ∷ rs) a xs = insert_last rs a (insert key r xs)
