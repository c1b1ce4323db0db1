-- Rows whose keys rise: by their keys, by neighbours, and after a row was entered.
use Rattle.std.proofs.Common.{◌≡◌, ℕ, suc, ◌+◌, ◌<◌, Bool, true, false, List, [], ◌∷◌, map, length, get_or, filter, Decides, Ordering, Less, Equal, Greater, sym, refl, ap, ◌∙◌, subst, true≢false, arith}
use Rattle.std.specs.List.{All, AllPairs, IsAllAdjacentAnswer}
use Rattle.std.specs.Ordering.{is_lt, match_ordering, ordering_reverse}
use Rattle.std.proofs.lemmas.List.{get_or-map, length-map}
use Rattle.std.proofs.lemmas.List.Elements.{All-cons, All-head, All-tail}
use Rattle.std.proofs.lemmas.List.Kept.{AllPairs-cons, AllPairs-filter}
use Rattle.std.proofs.lemmas.Map.Keys.{Less-from_sorted, sorted_from_all_adjacent}
use Rattle.std.proofs.Math.ListN.{get_or-map as keys_at}
use Rattle.table.specs.Order.{TotalOrder}
use Rattle.table.specs.Table.{Ascends, InOrder, enter_row}

module _ {X K : Type 0} (o : K → K → Ordering) (key : X → K) where
  abbrev pub Below : X → X → Type 0
  Below x y = o (key x) (key y) ≡ Less

  pub rows_rise : (xs : List X) → Ascends o (map key xs) → AllPairs Below xs
  rows_rise xs up i j d h l = (λ n. o (sym (keys_at key xs i d) n) (sym (keys_at key xs j d) n)) ∙ up i j (key d) h (rw length-map l)

  pub keys_rise : (xs : List X) → AllPairs Below xs → Ascends o (map key xs)
  keys_rise [] up i j d h l = absurd (omega arith)
  keys_rise (x ∷ xs) up i j d h l =
      let lt : j < length (x ∷ xs) = rw (sym (length-map (x ∷ xs) key)) l in
      (λ n. o (get_or-map key (x ∷ xs) i x d (omega arith) n) (get_or-map key (x ∷ xs) j x d lt n)) ∙ up i j x h lt

  later_pairs : (x : X) (xs : List X) → AllPairs Below (x ∷ xs) → AllPairs Below xs
  later_pairs x xs up i j d h l = up (suc i) (suc j) d (omega arith) (omega arith)

  module _ (t : TotalOrder o) where
    -- by neighbours
    risen : (xs : List X) → ((k : ℕ) (d : X) → k + 1 < length xs → Below (get_or xs k d) (get_or xs (k + 1) d)) → Ascends o (map key xs)
    risen [] step = λ i j d h l. absurd (omega arith)
    risen (x ∷ xs) step = λ i j d h l. Less-from_sorted o (map key (x ∷ xs)) i j d (sorted_from_all_adjacent t.laws (map key (x ∷ xs)) d (λ k m.
        let lt : k + 1 < length (x ∷ xs) = rw (sym (length-map (x ∷ xs) key)) m in
        (λ n. o (get_or-map key (x ∷ xs) k x d (omega arith) n) (get_or-map key (x ∷ xs) (k + 1) x d lt n)) ∙ step k x lt)) h l

    less : (a : Ordering) → true ≡ is_lt a → a ≡ Less
    less Less e = refl
    less Equal e = absurd (true≢false e)
    less Greater e = absurd (true≢false e)

    -- what `is_sorted_by` answers
    pub answered : (xs : List X) (r : Bool) → IsAllAdjacentAnswer (λ x y b. b ≡ is_lt (o (key x) (key y))) xs r → Decides r (Ascends o (map key xs))
    answered xs true h = (λ _. risen xs (λ k d l. less (o (key (get_or xs k d)) (key (get_or xs (k + 1) d))) (h k d l)), λ _. refl)
    answered [] false h = absurd (omega (arith, h.1))
    answered (x ∷ xs) false h = (λ e. absurd (true≢false (sym e)), λ up. absurd (true≢false (sym (h.2 x ∙ ap is_lt (rows_rise (x ∷ xs) up h.0 (h.0 + 1) x (omega arith) h.1)))))

    -- a row is entered: where one of its key stands, `pick` of the two then does
    module _ (pick : X → X → X) (kept : (r x : X) → key r ≡ key x → key (pick r x) ≡ key x) (r : X) where
      all_by : (P : K → Type 0) (x : X) (xs ys : List X) (a : Ordering) → o (key r) (key x) ≡ a → P (key r) → All (λ y. P (key y)) (x ∷ xs) → All (λ y. P (key y)) ys → All (λ y. P (key y)) (match_ordering a (r ∷ x ∷ xs) (pick r x ∷ xs) (x ∷ ys))
      all_by P x xs ys Less e new all more = All-cons (λ y. P (key y)) r (x ∷ xs) new all
      all_by P x xs ys Equal e new all more = All-cons (λ y. P (key y)) (pick r x) xs (subst P (sym (kept r x (t.same (key r) (key x) e))) (All-head (λ y. P (key y)) x xs all)) (All-tail (λ y. P (key y)) x xs all)
      all_by P x xs ys Greater e new all more = All-cons (λ y. P (key y)) x ys (All-head (λ y. P (key y)) x xs all) more

      all_entered : (P : K → Type 0) (xs : List X) → P (key r) → All (λ y. P (key y)) xs → All (λ y. P (key y)) (enter_row pick o key r xs)
      all_entered P [] new all = All-cons (λ y. P (key y)) r [] new all
      all_entered P (x ∷ xs) new all = all_by P x xs (enter_row pick o key r xs) (o (key r) (key x)) refl new all (all_entered P xs new (All-tail (λ y. P (key y)) x xs all))

      up_by : (x : X) (xs ys : List X) (a : Ordering) → o (key r) (key x) ≡ a → AllPairs Below (x ∷ xs) → (Below x r → All (Below x) ys) → AllPairs Below ys → AllPairs Below (match_ordering a (r ∷ x ∷ xs) (pick r x ∷ xs) (x ∷ ys))
      up_by x xs ys Less e up above rest = AllPairs-cons Below r (x ∷ xs) (All-cons (Below r) x xs e (λ k d l. t.laws.trans (key r) (key x) (key (get_or xs k d)) e (up 0 (suc k) d (omega arith) (omega arith)))) up
      up_by x xs ys Equal e up above rest = AllPairs-cons Below (pick r x) xs (λ k d l. subst (λ q. o q (key (get_or xs k d)) ≡ Less) (sym (kept r x (t.same (key r) (key x) e))) (up 0 (suc k) d (omega arith) (omega arith))) (later_pairs x xs up)
      up_by x xs ys Greater e up above rest = AllPairs-cons Below x ys (above (t.laws.antisymm (key x) (key r) ∙ ap ordering_reverse e)) rest

      up_entered : (xs : List X) → AllPairs Below xs → AllPairs Below (enter_row pick o key r xs)
      up_entered [] up = λ i j d h l. absurd (omega arith)
      up_entered (x ∷ xs) up = up_by x xs (enter_row pick o key r xs) (o (key r) (key x)) refl up (λ b. all_entered (λ q. o (key x) q ≡ Less) xs b (λ k d l. up 0 (suc k) d (omega arith) (omega arith))) (up_entered xs (later_pairs x xs up))

      pub ordered_entered : (xs : List X) → InOrder o key xs → InOrder o key (enter_row pick o key r xs)
      ordered_entered xs h = record { up = keys_rise (enter_row pick o key r xs) (up_entered xs (rows_rise xs h.up)) }

  pub ordered_kept : (p : X → Bool) (xs : List X) → InOrder o key xs → InOrder o key (filter p xs)
  ordered_kept p xs h = record { up = keys_rise (filter p xs) (AllPairs-filter Below p xs (rows_rise xs h.up)) }
