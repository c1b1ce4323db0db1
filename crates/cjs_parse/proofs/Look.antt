-- A name that is sought in the bindings.
use Rattle.std.proofs.Common.{◌≡◌, ℕ, Bool, true, false, cond, List, [], ◌∷◌, map, length, get_or, Some, None, Option, Ok, Err, Result, Ordering, Less, Equal, Greater, sym, refl, ap, ◌∙◌, inl, inr}
use Rattle.std.specs.List.Sorted.{IsBinarySearchResult, IsSearchInRange}
use Rattle.std.specs.Ordering.{match_ordering}
use Rattle.std.specs.Result.{result_ok}
use Rattle.std.specs.Str.{bytes_eq}
use Rattle.std.proofs.lemmas.Slice.Eq.{bytes_eq-Decides}
use Rattle.table.specs.Table.{InOrder, later, place}
use Rattle.table.specs.Totals.{numbers_total}
use Rattle.table.specs.declared.binding.Binding.{Binding}
use Rattle.table.proofs.Places.{found}
use Rattle.table.proofs.Rising.{rows_rise}
use Rattle.text.specs.Reading.{order}
use Rattle.text.specs.declared.place.Place.{Place}
use Rattle.std.proofs.lemmas.Map.Lookups.{exact_bytes}
use Rattle.cjs_law.specs.Findings.{by_name}
use Rattle.cjs_law.specs.Lists.{In}
use Rattle.cjs_law.proofs.Ascending.{Ascends, ascends_from}
use Rattle.cjs_law.proofs.Listed.{above_in, above_less, not_own}
use Rattle.cjs_law.proofs.Order.{greater_apart}
use Rattle.cjs_rules.specs.Chain.{◌>>=◌}
use Rattle.cjs_parse.specs.State.{look}

module _ (T : List ℕ) (key : List ℕ) where
  pub not_same : (a : List ℕ) → (a ≡ key → ⊥) → bytes_eq a key ≡ false
  not_same a n = go (bytes_eq a key) refl
    where
      go : (t : Bool) → bytes_eq a key ≡ t → bytes_eq a key ≡ false
      go true e = absurd (n ((bytes_eq-Decides a key).0 e))
      go false e = e

  pub is_same : (a : List ℕ) → a ≡ key → bytes_eq a key ≡ true
  is_same a e = (bytes_eq-Decides a key).1 e

  pub none_looked : (xs : List Binding) → ((b : Binding) → In b xs → by_name T b ≡ key → ⊥) → look T xs key ≡ None
  none_looked [] n = refl
  none_looked (y ∷ ys) n = ap (λ t. cond t (Some y.value) (look T ys key)) (not_same (by_name T y) (λ q. n y (inl refl) q)) ∙ none_looked ys (λ b i e. n b (inr i) e)

-- what is bound at the place of a name among bindings that ascend by their names
module _ (T : List ℕ) (key : List ℕ) (d : Binding) where
  abbrev value_at : List Binding → Result ℕ ℕ → Option Place
  value_at xs r = result_ok r >>= (λ i. Some (get_or xs i d).value)

  later_value : (x : Binding) (xs : List Binding) (p : Result ℕ ℕ) → value_at (x ∷ xs) (later p) ≡ value_at xs p
  later_value x xs (Ok i) = refl
  later_value x xs (Err i) = refl

  looked_by : (x : Binding) (xs : List Binding) (o : Ordering) → order key (by_name T x) ≡ o → Ascends (by_name T) (x ∷ xs) → value_at xs (place order key (map (by_name T) xs)) ≡ look T xs key →
      value_at (x ∷ xs) (match_ordering o (Err 0) (Ok 0) (later (place order key (map (by_name T) xs)))) ≡ look T (x ∷ xs) key
  looked_by x xs Less e a h = sym (none_looked T key (x ∷ xs) (λ b i q. not_own (by_name T) key b q (above_in (by_name T) key b (x ∷ xs) (e, above_less (by_name T) key (by_name T x) xs e a.0) i)))
  looked_by x xs Equal e a h = ap (λ t. cond t (Some x.value) (look T xs key)) (sym (is_same T key (by_name T x) (sym (exact_bytes key (by_name T x) e))))
  looked_by x xs Greater e a h =
      later_value x xs (place order key (map (by_name T) xs)) ∙ h
      ∙ ap (λ t. cond t (Some x.value) (look T xs key)) (sym (not_same T key (by_name T x) (λ q. greater_apart key (by_name T x) e (sym q))))

  looked : (xs : List Binding) → Ascends (by_name T) xs → value_at xs (place order key (map (by_name T) xs)) ≡ look T xs key
  looked [] a = refl
  looked (x ∷ xs) a = looked_by x xs (order key (by_name T x)) refl a (looked xs a.1)

-- what a binary search for a name comes to among rows that are in order
pub found_value :
    (T key : List ℕ) (xs : List Binding) (d : Binding) (r : Result ℕ ℕ) → InOrder order (by_name T) xs → IsSearchInRange r (length xs) → IsBinarySearchResult (λ b. order (by_name T b) key) xs r →
    (o : Option ℕ) → o ≡ result_ok r → (o >>= (λ i. Some (get_or xs i d).value)) ≡ look T xs key
found_value T key xs d r sorted within at o e =
    ap (λ o. o >>= (λ i. Some (get_or xs i d).value)) (e ∙ ap result_ok (found order (by_name T) key numbers_total xs (rows_rise order (by_name T) xs sorted.up) r within at))
    ∙ looked T key d xs (ascends_from (by_name T) xs sorted)
