-- What is computed is what the words say, and nothing else is.
use Rattle.std.proofs.Common.{◌≡◌, ℕ, Bool, true, false, cond, ◌⊎◌, ◌↔◌, List, [], ◌∷◌, ◌++◌, map, is_err, Ok, Err, filter, Result, Ordering, Less, Equal, Greater, sym, refl, ap, ◌∙◌, subst, inl, inr, ⊎_elim, true≢false, arith}
use Rattle.std.specs.Ordering.{match_ordering}
use Rattle.std.proofs.lemmas.List.{append-nil, append_assoc}
use Rattle.table.specs.Table.{InOrder, later, place, without}
use Rattle.table.specs.Totals.{numbers_total}
use Rattle.table.proofs.Rising.{ordered_entered, ordered_kept}
use Rattle.text.specs.Reading.{order}
use Rattle.std.proofs.lemmas.Map.Lookups.{exact_bytes}
use Rattle.cjs_law.specs.Lists.{In, First, Has, Lists, insert, insert_all}
use Rattle.cjs_law.proofs.Ascending.{Above, Ascends, ascends_from}
use Rattle.cjs_law.proofs.Order.{greater_apart, less_apart, order_own}

later_err : (p : Result ℕ ℕ) → is_err (later p) ≡ is_err p
later_err (Ok i) = refl
later_err (Err i) = refl

module _ {X : Type 0} (key : X → List ℕ) where
  pub above_in : (k : List ℕ) (x : X) (xs : List X) → Above key k xs → In x xs → order k (key x) ≡ Less
  above_in k x [] h i = absurd i
  above_in k x (y ∷ ys) h (inl e) = ap (λ z. order k (key z)) e ∙ h.0
  above_in k x (y ∷ ys) h (inr i) = above_in k x ys h.1 i

  pub above_less : (k l : List ℕ) (xs : List X) → order k l ≡ Less → Above key l xs → Above key k xs
  above_less k l [] e h = tt
  above_less k l (y ∷ ys) e h = (numbers_total.laws.trans k l (key y) e h.0, above_less k l ys e h.1)

  pub not_own : (k : List ℕ) (x : X) → key x ≡ k → order k (key x) ≡ Less → ⊥
  not_own k x e h = less_apart k (key x) h (sym e)

  -- ---- a list is determined by its members

  heads : (x y : X) (xs ys : List X) → Above key (key x) xs → Above key (key y) ys → In x (y ∷ ys) → In y (x ∷ xs) → x ≡ y
  heads x y xs ys a b (inl e) j = e
  heads x y xs ys a b (inr i) (inl e) = sym e
  heads x y xs ys a b (inr i) (inr j) = absurd (order_own (key x) (numbers_total.laws.trans (key x) (key y) (key x) (above_in (key x) y xs a j) (above_in (key y) x ys b i)))

  tails : (x y z : X) (xs ys : List X) → Above key (key x) xs → x ≡ y → In z xs → In z (y ∷ ys) → In z ys
  tails x y z xs ys a e i (inl f) = absurd (not_own (key x) z (ap key (f ∙ sym e)) (above_in (key x) z xs a i))
  tails x y z xs ys a e i (inr j) = j

  pub same_members : (xs ys : List X) → Ascends key xs → Ascends key ys → ((x : X) → In x xs ↔ In x ys) → xs ≡ ys
  same_members [] [] a b w = refl
  same_members [] (y ∷ ys) a b w = absurd ((w y).1 (inl refl))
  same_members (x ∷ xs) [] a b w = absurd ((w x).0 (inl refl))
  same_members (x ∷ xs) (y ∷ ys) a b w =
      let e : x ≡ y = heads x y xs ys a.0 b.0 ((w x).0 (inl refl)) ((w y).1 (inl refl)) in
      let r : xs ≡ ys = same_members xs ys a.1 b.1 (λ z. ((λ i. tails x y z xs ys a.0 e i ((w z).0 (inr i))), (λ i. tails y x z ys xs b.0 (sym e) i ((w z).1 (inr i))))) in
      λ i. e i ∷ r i

  pub lists_one : (added : List X) (barred : List (List ℕ)) (xs ys : List X) → Lists key added barred xs → Lists key added barred ys → xs ≡ ys
  lists_one added barred xs ys a b = same_members xs ys (ascends_from key xs a.ascends) (ascends_from key ys b.ascends) (λ x. ((λ i. (b.exact x).1 ((a.exact x).0 i)), (λ i. (a.exact x).1 ((b.exact x).0 i))))

  -- ---- insertion

  lacks_above : (k : List ℕ) (xs : List X) → Above key k xs → Has key k xs → ⊥
  lacks_above k xs a h = not_own k h.0 h.2 (above_in k h.0 xs a h.1)

  lacks_front : (k : List ℕ) (y : X) (ys : List X) → (key y ≡ k → ⊥) → (Has key k ys → ⊥) → Has key k (y ∷ ys) → ⊥
  lacks_front k y ys n m (z, (inl q), g) = n (ap key (sym q) ∙ g)
  lacks_front k y ys n m (z, (inr i), g) = m (z, i, g)

  -- x was there, or it is r, whose key was not
  abbrev New : X → X → List X → Type 0
  New x r xs = In x xs ⊎ ((x ≡ r) × (Has key (key r) xs → ⊥))

  new_more : (x r y : X) (ys : List X) → order (key r) (key y) ≡ Greater → New x r ys → New x r (y ∷ ys)
  new_more x r y ys e (inl i) = inl (inr i)
  new_more x r y ys e (inr n) = inr (n.0, lacks_front (key r) y ys (λ q. greater_apart (key r) (key y) e (sym q)) n.1)

  in_by : (x r y : X) (ys : List X) (o : Ordering) → order (key r) (key y) ≡ o → Ascends key (y ∷ ys) → (In x (insert key r ys) → New x r ys) → In x (match_ordering o (r ∷ y ∷ ys) (y ∷ ys) (y ∷ insert key r ys)) → New x r (y ∷ ys)
  in_by x r y ys Less e a f i = ⊎_elim (λ q. inr (q, lacks_above (key r) (y ∷ ys) (e, above_less (key r) (key y) ys e a.0))) (λ j. inl j) i
  in_by x r y ys Equal e a f i = inl i
  in_by x r y ys Greater e a f i = ⊎_elim (λ q. inl (inl q)) (λ j. new_more x r y ys e (f j)) i

  in_insert : (x r : X) (xs : List X) → Ascends key xs → In x (insert key r xs) → New x r xs
  in_insert x r [] a i = ⊎_elim (λ q. inr (q, λ h. absurd h.1)) (λ j. absurd j) i
  in_insert x r (y ∷ ys) a i = in_by x r y ys (order (key r) (key y)) refl a (in_insert x r ys a.1) i

  stays_by : (x r y : X) (ys : List X) (o : Ordering) → (In x ys → In x (insert key r ys)) → In x (y ∷ ys) → In x (match_ordering o (r ∷ y ∷ ys) (y ∷ ys) (y ∷ insert key r ys))
  stays_by x r y ys Less f i = inr i
  stays_by x r y ys Equal f i = i
  stays_by x r y ys Greater f (inl e) = inl e
  stays_by x r y ys Greater f (inr i) = inr (f i)

  stays : (x r : X) (xs : List X) → In x xs → In x (insert key r xs)
  stays x r [] i = absurd i
  stays x r (y ∷ ys) i = stays_by x r y ys (order (key r) (key y)) (stays x r ys) i

  comes_by : (r y : X) (ys : List X) (o : Ordering) → order (key r) (key y) ≡ o → (Has key (key r) (y ∷ ys) → ⊥) → ((Has key (key r) ys → ⊥) → In r (insert key r ys)) → In r (match_ordering o (r ∷ y ∷ ys) (y ∷ ys) (y ∷ insert key r ys))
  comes_by r y ys Less e n f = inl refl
  comes_by r y ys Equal e n f = absurd (n (y, inl refl, sym (exact_bytes (key r) (key y) e)))
  comes_by r y ys Greater e n f = inr (f (λ h. n (h.0, inr h.1, h.2)))

  comes : (r : X) (xs : List X) → (Has key (key r) xs → ⊥) → In r (insert key r xs)
  comes r [] n = inl refl
  comes r (y ∷ ys) n = comes_by r y ys (order (key r) (key y)) refl n (comes r ys)

  -- ---- the first of a key

  pub first_in : (x : X) (xs : List X) → First key x xs → In x xs
  first_in x [] f = absurd f
  first_in x (y ∷ ys) (inl e) = inl e
  first_in x (y ∷ ys) (inr f) = inr (first_in x ys f.1)

  ascends_first : (x : X) (xs : List X) → Ascends key xs → In x xs → First key x xs
  ascends_first x [] a i = absurd i
  ascends_first x (y ∷ ys) a (inl e) = inl e
  ascends_first x (y ∷ ys) a (inr i) = inr ((λ q. not_own (key y) x (sym q) (above_in (key y) x ys a.0 i)), ascends_first x ys a.1 i)

  pub first_in_order : (x : X) (xs : List X) → InOrder order key xs → In x xs → First key x xs
  first_in_order x xs h = ascends_first x xs (ascends_from key xs h)

  abbrev FirstOf : List ℕ → List X → Type 0
  FirstOf k xs = (x : X) × First key x xs × (key x ≡ k)

  has_later : (k : List ℕ) (y : X) (ys : List X) → (key y ≡ k → ⊥) → (Has key k ys → FirstOf k ys) → Has key k (y ∷ ys) → FirstOf k (y ∷ ys)
  has_later k y ys n f (z, (inl q), g) = absurd (n (ap key (sym q) ∙ g))
  has_later k y ys n f (z, (inr i), g) = let h = f (z, i, g) in (h.0, inr ((λ q. n (q ∙ h.2)), h.1), h.2)

  has_by : (k : List ℕ) (y : X) (ys : List X) (o : Ordering) → order (key y) k ≡ o → (Has key k ys → FirstOf k ys) → Has key k (y ∷ ys) → FirstOf k (y ∷ ys)
  has_by k y ys Less e f h = has_later k y ys (less_apart (key y) k e) f h
  has_by k y ys Equal e f h = (y, inl refl, exact_bytes (key y) k e)
  has_by k y ys Greater e f h = has_later k y ys (greater_apart (key y) k e) f h

  pub has_first : (k : List ℕ) (xs : List X) → Has key k xs → FirstOf k xs
  has_first k [] h = absurd h.1
  has_first k (y ∷ ys) h = has_by k y ys (order (key y) k) refl (has_first k ys) h

  abbrev pub FirstNew : X → X → List X → Type 0
  FirstNew x a xs = First key x xs ⊎ ((x ≡ a) × (Has key (key a) xs → ⊥))

  first_more : (x a y : X) (ys : List X) → (key y ≡ key x → ⊥) → FirstNew x a ys → FirstNew x a (y ∷ ys)
  first_more x a y ys n (inl f) = inl (inr (n, f))
  first_more x a y ys n (inr h) = inr (h.0, lacks_front (key a) y ys (λ q. n (q ∙ ap key (sym h.0))) h.1)

  pub first_append : (x a : X) (xs : List X) → First key x (xs ++ a ∷ []) → FirstNew x a xs
  first_append x a [] (inl e) = inr (e, λ h. absurd h.1)
  first_append x a [] (inr f) = absurd f.1
  first_append x a (y ∷ ys) (inl e) = inl (inl e)
  first_append x a (y ∷ ys) (inr f) = first_more x a y ys f.0 (first_append x a ys f.1)

  pub first_stays : (x a : X) (xs : List X) → First key x xs → First key x (xs ++ a ∷ [])
  first_stays x a [] f = absurd f
  first_stays x a (y ∷ ys) (inl e) = inl e
  first_stays x a (y ∷ ys) (inr f) = inr (f.0, first_stays x a ys f.1)

  pub first_comes : (a : X) (xs : List X) → (Has key (key a) xs → ⊥) → First key a (xs ++ a ∷ [])
  first_comes a [] n = inl refl
  first_comes a (y ∷ ys) n = inr ((λ q. n (y, inl refl, q)), first_comes a ys (λ h. n (h.0, inr h.1, h.2)))

  -- ---- one more

  abbrev Free : List X → List X → Type 0
  Free added xs = Lists key added [] xs

  has_over : (added xs : List X) → Free added xs → (k : List ℕ) → Has key k added → Has key k xs
  has_over added xs l k h = let f = has_first k added h in (f.0, (l.exact f.0).1 (f.1, λ b. b), f.2)

  has_back : (added xs : List X) → Free added xs → (k : List ℕ) → Has key k xs → Has key k added
  has_back added xs l k h = (h.0, first_in h.0 added ((l.exact h.0).0 h.1).0, h.2)

  pub one_more : (added xs : List X) (a : X) → Free added xs → Free (added ++ a ∷ []) (insert key a xs)
  one_more added xs a l = record {
    ascends = ordered_entered order key numbers_total (λ r x. x) (λ r x e. refl) a xs l.ascends;
    exact = λ x. (
      (λ i. (
        ⊎_elim
            (λ j. first_stays x a added ((l.exact x).0 j).0)
            (λ n. subst (λ z. First key z (added ++ a ∷ [])) (sym n.0) (first_comes a added (λ h. n.1 (has_over added xs l (key a) h))))
            (in_insert x a xs (ascends_from key xs l.ascends) i),
        λ b. b,
      )),
      (λ f. ⊎_elim
          (λ g. stays x a xs ((l.exact x).1 (g, λ b. b)))
          (λ n. subst (λ z. In z (insert key a xs)) (sym n.0) (comes a xs (λ h. n.1 (has_back added xs l (key a) h))))
          (first_append x a added f.0)),
    );
  }

  pub empty_lists : (barred : List (List ℕ)) → Lists key [] barred []
  empty_lists barred = record { ascends = record { up = λ i j d a l. absurd (omega arith) }; exact = λ x. ((λ i. absurd i), (λ f. absurd f.0)) }

  pub all_more : (added rs xs : List X) → Free added xs → Free (added ++ rs) (insert_all key rs xs)
  all_more added [] xs l = subst (λ q. Free q xs) (sym (append-nil added)) l
  all_more added (r ∷ rs) xs l = subst (λ q. Free q (insert_all key rs (insert key r xs))) (append_assoc added (r ∷ []) rs) (all_more (added ++ r ∷ []) rs (insert key r xs) (one_more added xs r l))

  -- ---- what is barred

  module _ (barred : List (List ℕ)) (test : X → Bool) (free : (x : X) → test x ≡ true → In (key x) barred → ⊥) (found : (x : X) → test x ≡ false → In (key x) barred) where
    abbrev Spared : X → List X → Type 0
    Spared x xs = In x xs × (In (key x) barred → ⊥)

    spared_by : (x y : X) (ys : List X) (t : Bool) → test y ≡ t → (In x (filter test ys) → Spared x ys) → In x (cond t (y ∷ filter test ys) (filter test ys)) → Spared x (y ∷ ys)
    spared_by x y ys true e f (inl q) = (inl q, free x (ap test q ∙ e))
    spared_by x y ys true e f (inr i) = let s = f i in (inr s.0, s.1)
    spared_by x y ys false e f i = let s = f i in (inr s.0, s.1)

    spared : (x : X) (xs : List X) → In x (filter test xs) → Spared x xs
    spared x [] i = absurd i
    spared x (y ∷ ys) i = spared_by x y ys (test y) refl (spared x ys) i

    stays_kept_by : (x y : X) (ys : List X) (t : Bool) → test y ≡ t → (In (key x) barred → ⊥) → (In x ys → In x (filter test ys)) → In x (y ∷ ys) → In x (cond t (y ∷ filter test ys) (filter test ys))
    stays_kept_by x y ys true e n f (inl q) = inl q
    stays_kept_by x y ys true e n f (inr i) = inr (f i)
    stays_kept_by x y ys false e n f (inl q) = absurd (n (found x (ap test q ∙ e)))
    stays_kept_by x y ys false e n f (inr i) = f i

    stays_kept : (x : X) (xs : List X) → (In (key x) barred → ⊥) → In x xs → In x (filter test xs)
    stays_kept x [] n i = absurd i
    stays_kept x (y ∷ ys) n i = stays_kept_by x y ys (test y) refl n (stays_kept x ys n) i

    pub fewer : (added xs : List X) → Free added xs → Lists key added barred (filter test xs)
    fewer added xs l = record {
      ascends = ordered_kept order key test xs l.ascends;
      exact = λ x. (
        (λ i. let s = spared x xs i in (((l.exact x).0 s.0).0, s.1)),
        (λ f. stays_kept x xs f.1 ((l.exact x).1 (f.0, λ b. b))),
      );
    }

  -- a key's place among rows that ascend tells whether one of them has it
  placed_by : (k : List ℕ) (x : X) (xs : List X) (o : Ordering) → order k (key x) ≡ o → Ascends key (x ∷ xs) → (is_err (place order k (map key xs)) ≡ true → Has key k xs → ⊥) → is_err (match_ordering o (Err 0) (Ok 0) (later (place order k (map key xs)))) ≡ true → Has key k (x ∷ xs) → ⊥
  placed_by k x xs Less e a f t h = lacks_above k (x ∷ xs) (e, above_less k (key x) xs e a.0) h
  placed_by k x xs Equal e a f t h = true≢false (sym t)
  placed_by k x xs Greater e a f t h = lacks_front k x xs (λ q. greater_apart k (key x) e (sym q)) (f (sym (later_err (place order k (map key xs))) ∙ t)) h

  pub lacks_placed : (k : List ℕ) (xs : List X) → Ascends key xs → is_err (place order k (map key xs)) ≡ true → Has key k xs → ⊥
  lacks_placed k [] a t h = absurd h.1
  lacks_placed k (x ∷ xs) a t h = placed_by k x xs (order k (key x)) refl a (lacks_placed k xs a.1) t h

  has_placed_by : (k : List ℕ) (x : X) (xs : List X) (o : Ordering) → order k (key x) ≡ o → (is_err (place order k (map key xs)) ≡ false → Has key k xs) → is_err (match_ordering o (Err 0) (Ok 0) (later (place order k (map key xs)))) ≡ false → Has key k (x ∷ xs)
  has_placed_by k x xs Less e f t = absurd (true≢false t)
  has_placed_by k x xs Equal e f t = (x, inl refl, sym (exact_bytes k (key x) e))
  has_placed_by k x xs Greater e f t = let h = f (sym (later_err (place order k (map key xs))) ∙ t) in (h.0, inr h.1, h.2)

  pub has_placed : (k : List ℕ) (xs : List X) → is_err (place order k (map key xs)) ≡ false → Has key k xs
  has_placed k [] t = absurd (true≢false t)
  has_placed k (x ∷ xs) t = has_placed_by k x xs (order k (key x)) refl (has_placed k xs) t

  in_keys : (k : List ℕ) (xs : List X) → In k (map key xs) → Has key k xs
  in_keys k [] i = absurd i
  in_keys k (x ∷ xs) (inl e) = (x, inl refl, sym e)
  in_keys k (x ∷ xs) (inr i) = let h = in_keys k xs i in (h.0, inr h.1, h.2)

  keys_in : (k : List ℕ) (xs : List X) → Has key k xs → In k (map key xs)
  keys_in k [] h = absurd h.1
  keys_in k (x ∷ xs) (y, (inl e), q) = inl (sym (ap key (sym e) ∙ q))
  keys_in k (x ∷ xs) (y, (inr i), q) = inr (keys_in k xs (y, i, q))

  -- rows without those whose keys other rows have, which list what was marked
  pub without_lists : (marked others added xs : List X) → Free marked others → Free added xs → Lists key added (map key marked) (without order key others xs)
  without_lists marked others added xs m l =
      fewer (map key marked) (λ r. is_err (place order (key r) (map key others)))
      (λ x t i. lacks_placed (key x) others (ascends_from key others m.ascends) t (has_over marked others m (key x) (in_keys (key x) marked i)))
      (λ x t. keys_in (key x) marked (has_back marked others m (key x) (has_placed (key x) others t)))
      added xs l

  pub in_marked : (k : List ℕ) (marked : List X) → In k (map key marked) ↔ Has key k marked
  in_marked k marked = (in_keys k marked, keys_in k marked)

  -- a key is listed exactly when something added has it and nothing bars it
  pub has_listed : (added : List X) (barred : List (List ℕ)) (xs : List X) → Lists key added barred xs → (k : List ℕ) → Has key k xs ↔ (Has key k added × (In k barred → ⊥))
  has_listed added barred xs l k = (
    (λ h. let f = (l.exact h.0).0 h.1 in ((h.0, first_in h.0 added f.0, h.2), λ b. f.1 (subst (λ q. In q barred) (sym h.2) b))),
    (λ p. let f = has_first k added p.0 in (f.0, (l.exact f.0).1 (f.1, λ b. p.1 (subst (λ q. In q barred) f.2 b)), f.2)),
  )
