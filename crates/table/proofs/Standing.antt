-- Where a key stands or belongs among keys that rise.
use Rattle.std.proofs.Common.{◌≡◌, ℕ, zero, suc, ◌<◌, ◌≤◌, true, false, List, [], ◌∷◌, map, length, get_or, is_err, Ok, Err, Result, Contains, Ordering, Less, Equal, Greater, sym, refl, ap, ◌∙◌, subst, inl, inr, ◌⊎◌, true≢false, arith}
use Rattle.std.specs.Ordering.{is_lt, match_ordering, ordering_reverse}
use Rattle.std.proofs.lemmas.Bool.{cases_lt}
use Rattle.table.specs.Laws.{BelongsAt, PlaceStandsOrBelongs, StandsAt}
use Rattle.table.specs.Order.{TotalOrder}
use Rattle.table.specs.Table.{Ascends, later, place}
use Rattle.table.proofs.Places.{place_err, place_ok}

own_by : (a : Ordering) → a ≡ ordering_reverse a → a ≡ Less → ⊥
own_by Less f e = true≢false (ap is_lt f)
own_by Equal f e = true≢false (sym (ap is_lt e))
own_by Greater f e = true≢false (sym (ap is_lt e))

as_they_are : {K : Type 0} (keys : List K) → map (λ x. x) keys ≡ keys
as_they_are [] = refl
as_they_are (x ∷ xs) = ap (λ l. x ∷ l) (as_they_are xs)

module _ {K : Type 0} (o : K → K → Ordering) (t : TotalOrder o) where
  pub turned : (x y : K) (a : Ordering) → o x y ≡ a → o y x ≡ ordering_reverse a
  turned x y a e = t.laws.antisymm y x ∙ ap ordering_reverse e

  -- no key is less than itself
  pub not_own : (k l : K) → k ≡ l → o k l ≡ Less → ⊥
  not_own k l q e = own_by (o k k) (t.laws.antisymm k k) (ap (o k) q ∙ e)

  pub later_keys : (x : K) (xs : List K) → Ascends o (x ∷ xs) → Ascends o xs
  later_keys x xs up i j d h l = up (suc i) (suc j) d (omega arith) (omega arith)

  pub head_less : (x k : K) (xs : List K) → Ascends o (x ∷ xs) → Contains xs k → o x k ≡ Less
  head_less x k xs up c = ap (o x) (sym c.2) ∙ up 0 (suc c.0) k (omega arith) (omega (arith, c.1))

  module _ (k : K) where
    abbrev pub Right : List K → Result ℕ ℕ → Type 0
    Right keys (Ok i) = StandsAt k keys i
    Right keys (Err i) = BelongsAt o k keys i

    greater_from : (x : K) (xs : List K) → o k x ≡ Less → Ascends o (x ∷ xs) → (j : ℕ) (d : K) → 0 ≤ j → j < length (x ∷ xs) → o (get_or (x ∷ xs) j d) k ≡ Greater
    greater_from x xs e up zero d a l = turned k x Less e
    greater_from x xs e up (suc j) d a l = turned k (get_or xs j d) Less (t.laws.trans k x (get_or xs j d) e (up 0 (suc j) d (omega arith) l))

    less_more : (x : K) (xs : List K) (i : ℕ) → o k x ≡ Greater → ((j : ℕ) (d : K) → 0 ≤ j → j < i → o (get_or xs j d) k ≡ Less) → (j : ℕ) (d : K) → 0 ≤ j → j < suc i → o (get_or (x ∷ xs) j d) k ≡ Less
    less_more x xs i e h zero d a l = turned k x Greater e
    less_more x xs i e h (suc j) d a l = h j d (omega arith) (omega arith)

    greater_more : (x : K) (xs : List K) (i : ℕ) → ((j : ℕ) (d : K) → i ≤ j → j < length xs → o (get_or xs j d) k ≡ Greater) → (j : ℕ) (d : K) → suc i ≤ j → j < length (x ∷ xs) → o (get_or (x ∷ xs) j d) k ≡ Greater
    greater_more x xs i h zero d a l = absurd (omega arith)
    greater_more x xs i h (suc j) d a l = h j d (omega arith) (omega arith)

    right_by : (x : K) (xs : List K) (a : Ordering) (p : Result ℕ ℕ) → o k x ≡ a → Ascends o (x ∷ xs) → Right xs p → Right (x ∷ xs) (match_ordering a (Err 0) (Ok 0) (later p))
    right_by x xs Less p e up h = (omega arith, (λ j d a l. absurd (omega arith)), greater_from x xs e up)
    right_by x xs Equal p e up h = (omega arith, λ d. sym (t.same k x e))
    right_by x xs Greater (Ok i) e up h = (omega (arith, h.0), h.1)
    right_by x xs Greater (Err i) e up h = (omega (arith, h.0), less_more x xs i e h.1, greater_more x xs i h.2)

    right : (keys : List K) → Ascends o keys → Right keys (place o k keys)
    right [] up = (omega arith, (λ j d a l. absurd (omega arith)), λ j d a l. absurd (omega arith))
    right (x ∷ xs) up = right_by x xs (o k x) (place o k xs) refl up (right xs (later_keys x xs up))

    stands_back : (keys : List K) (i : ℕ) → Ascends o keys → StandsAt k keys i → place o k keys ≡ Ok i
    stands_back keys i up h =
        ap (place o k) (sym (as_they_are keys))
        ∙ place_ok o (λ x. x) k keys i h.0 (λ j d l. turned (get_or keys j d) k Less (subst (λ y. o (get_or keys j d) y ≡ Less) (h.1 d) (up j i d l h.0))) (λ d. ap (λ y. o y (get_or keys i d)) (sym (h.1 d)) ∙ tied (get_or keys i d))
      where
        tied : (x : K) → o x x ≡ Equal
        tied x = own_equal (o x x) (t.laws.antisymm x x)
          where
            own_equal : (a : Ordering) → a ≡ ordering_reverse a → a ≡ Equal
            own_equal Less f = absurd (true≢false (ap is_lt f))
            own_equal Equal f = refl
            own_equal Greater f = absurd (true≢false (sym (ap is_lt f)))

    belongs_back : (keys : List K) (i : ℕ) → BelongsAt o k keys i → place o k keys ≡ Err i
    belongs_back keys i h =
        ap (place o k) (sym (as_they_are keys))
        ∙ place_err o (λ x. x) k keys i h.0 (λ j d l. turned (get_or keys j d) k Less (h.1 j d (omega arith) l)) (λ d l. turned (get_or keys i d) k Greater (h.2 i d (omega arith) l))

  pub place_is : PlaceStandsOrBelongs o
  place_is = record {
    stands = λ k keys up i. ((λ e. subst (Right k keys) e (right k keys up)), stands_back k keys i up);
    belongs = λ k keys up i. ((λ e. subst (Right k keys) e (right k keys up)), belongs_back k keys i);
  }

  -- whether a place is found tells whether the key is among them
  lacks_by : (k : K) (keys : List K) (p : Result ℕ ℕ) → Right k keys p → is_err p ≡ true → Contains keys k → ⊥
  lacks_by k keys (Ok i) h e c = true≢false (sym e)
  lacks_by k keys (Err i) h e c = split (cases_lt c.0 i)
    where
      split : (c.0 < i) ⊎ (i ≤ c.0) → ⊥
      split (inl l) = not_own (get_or keys c.0 k) k c.2 (h.1 c.0 k (omega arith) l)
      split (inr l) = not_own k (get_or keys c.0 k) (sym c.2) (turned (get_or keys c.0 k) k Greater (h.2 c.0 k l c.1))

  pub lacks : (k : K) (keys : List K) → Ascends o keys → is_err (place o k keys) ≡ true → Contains keys k → ⊥
  lacks k keys up = lacks_by k keys (place o k keys) (right k keys up)

  has_by : (k : K) (keys : List K) (p : Result ℕ ℕ) → Right k keys p → is_err p ≡ false → Contains keys k
  has_by k keys (Ok i) h e = (i, h.0, h.1 k)
  has_by k keys (Err i) h e = absurd (true≢false e)

  pub has : (k : K) (keys : List K) → Ascends o keys → is_err (place o k keys) ≡ false → Contains keys k
  has k keys up = has_by k keys (place o k keys) (right k keys up)
