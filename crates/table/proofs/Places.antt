-- Where a key belongs among rows whose keys rise, and where a binary search finds it.
use Rattle.std.proofs.Common.{◌≡◌, ℕ, zero, suc, ◌+◌, ◌<◌, ◌≤◌, List, [], ◌∷◌, map, length, get_or, Ok, Err, Result, Bor, Ordering, Less, Equal, Greater, sym, refl, ap, ◌∙◌, subst, arith}
use denote.Param.Members.{Mut}
use Rattle.std.specs.Fn.{Called, ComputesKey}
use Rattle.std.specs.List.{AllPairs, AllWithin, HoldsAt}
use Rattle.std.specs.List.Sorted.{IsBinarySearchResult, IsNonDecreasingBy, IsSearchInRange, IsSortedBy}
use Rattle.std.specs.Ordering.{is_lt, match_ordering, ordering_index, ordering_reverse}
use Rattle.std.proofs.lemmas.List.{get_or_read}
use Rattle.std.proofs.lemmas.List.Sorted.{searchable_from_sorted}
use Rattle.table.specs.Order.{TotalOrder}
use Rattle.table.specs.Table.{later, place}

least : (a : Ordering) → ordering_index a ≤ 0 → a ≡ Less
least Less h = refl
least Equal h = absurd (omega arith)
least Greater h = absurd (omega arith)

greatest : (a : Ordering) → 2 ≤ ordering_index a → a ≡ Greater
greatest Less h = absurd (omega arith)
greatest Equal h = absurd (omega arith)
greatest Greater h = refl

module _ {X : Type 0} (order : X → Ordering) (xs : List X) where
  -- what a call at the row x, which stands at i, says of it
  pub compared : {F : Type 0} (g : Mut F (Bor X × Unit {0}) Ordering) (i : ℕ) (f f' : F) (x : Bor X) (r a : Ordering) → ComputesKey g order f → i < length xs → x.now ≡ get_or xs i x.now → Called g f (x, tt) r f' → r ≡ a → HoldsAt (λ y. order y ≡ a) xs i
  compared g i f f' x r a h lt is called e d = ap order (sym (get_or_read xs i x.now lt is d)) ∙ sym (h.at ((x, tt) ∷ []) r f' called).0 ∙ e

  -- where the comparisons rise, the rows before low are less, and those from high on are greater
  abbrev pub Narrowed : ℕ → ℕ → Type 0
  Narrowed low high = IsNonDecreasingBy (λ x. ordering_index (order x)) xs → AllWithin (λ x. order x ≡ Less) xs 0 low × AllWithin (λ x. order x ≡ Greater) xs high (length xs)

  pub narrowed_less : (low high mid : ℕ) → mid < length xs → HoldsAt (λ x. order x ≡ Less) xs mid → Narrowed low high → Narrowed (mid + 1) high
  narrowed_less low high mid lt at h up = ((λ j d a l. least (order (get_or xs j d)) (subst (λ n. ordering_index (order (get_or xs j d)) ≤ n) (ap ordering_index (at d)) (up j mid d (omega arith) lt))), (h up).1)

  pub narrowed_greater : (low high mid : ℕ) → mid < length xs → HoldsAt (λ x. order x ≡ Greater) xs mid → Narrowed low high → Narrowed low mid
  narrowed_greater low high mid lt at h up = ((h up).0, λ j d a l. greatest (order (get_or xs j d)) (subst (λ n. n ≤ ordering_index (order (get_or xs j d))) (ap ordering_index (at d)) (up mid j d a l)))

module _ {X K : Type 0} (o : K → K → Ordering) (key : X → K) (k : K) where
  pub place_err : (xs : List X) (i : ℕ) → i ≤ length xs → ((j : ℕ) (d : X) → j < i → o k (key (get_or xs j d)) ≡ Greater) → ((d : X) → i < length xs → o k (key (get_or xs i d)) ≡ Less) → place o k (map key xs) ≡ Err i
  place_err [] i le above below = let e : i ≡ 0 = omega arith in ap Err (sym e)
  place_err (x ∷ xs) zero le above below = ap (λ r. match_ordering r (Err 0) (Ok 0) (later (place o k (map key xs)))) (below x (omega arith))
  place_err (x ∷ xs) (suc i) le above below =
      ap (λ r. match_ordering r (Err 0) (Ok 0) (later (place o k (map key xs)))) (above zero x (omega arith))
      ∙ ap later (place_err xs i (omega arith) (λ j d h. above (suc j) d (omega arith)) (λ d h. below d (omega arith)))

  pub place_ok : (xs : List X) (i : ℕ) → i < length xs → ((j : ℕ) (d : X) → j < i → o k (key (get_or xs j d)) ≡ Greater) → ((d : X) → o k (key (get_or xs i d)) ≡ Equal) → place o k (map key xs) ≡ Ok i
  place_ok [] i lt above at = absurd (omega arith)
  place_ok (x ∷ xs) zero lt above at = ap (λ r. match_ordering r (Err 0) (Ok 0) (later (place o k (map key xs)))) (at x)
  place_ok (x ∷ xs) (suc i) lt above at =
      ap (λ r. match_ordering r (Err 0) (Ok 0) (later (place o k (map key xs)))) (above zero x (omega arith))
      ∙ ap later (place_ok xs i (omega arith) (λ j d h. above (suc j) d (omega arith)) at)

  module _ (t : TotalOrder o) (xs : List X) (up : AllPairs (λ x y. o (key x) (key y) ≡ Less) xs) where
    turned : (x : X) (a : Ordering) → o (key x) k ≡ a → o k (key x) ≡ ordering_reverse a
    turned x a e = t.laws.antisymm k (key x) ∙ ap ordering_reverse e

    sorted : IsSortedBy (λ x y. is_lt (o (key x) (key y))) xs
    sorted i d _ h = ap is_lt (t.laws.antisymm (key (get_or xs (i + 1) d)) (key (get_or xs i d)) ∙ ap ordering_reverse (up i (i + 1) d (omega arith) h))

    -- what a binary search for k answers
    pub found : (r : Result ℕ ℕ) → IsSearchInRange r (length xs) → IsBinarySearchResult (λ x. o (key x) k) xs r → r ≡ place o k (map key xs)
    found (Ok i) lt at =
        let before : (j : ℕ) (d : X) → j < i → o (key (get_or xs j d)) k ≡ Less = λ j d h. subst (λ y. o (key (get_or xs j d)) y ≡ Less) (t.same (key (get_or xs i d)) k (at d)) (up j i d h lt) in
        sym (place_ok xs i lt (λ j d h. turned (get_or xs j d) Less (before j d h)) (λ d. turned (get_or xs i d) Equal (at d)))
    found (Err i) le split =
        let parts = split (searchable_from_sorted t.laws key xs k sorted) in
        sym (place_err xs i le (λ j d h. turned (get_or xs j d) Less (parts.0 j d (omega arith) h)) (λ d h. turned (get_or xs i d) Greater (parts.1 i d (omega arith) h)))
