-- Which rows stand among others after an entry and a removal.
use Rattle.std.proofs.Common.{◌≡◌, ◌≢◌, zero, suc, Bool, true, false, cond, ◌⊎◌, List, [], ◌∷◌, map, filter, is_err, Contains, Ordering, Less, Equal, Greater, sym, refl, ap, ◌∙◌, subst, inl, inr, ⊎_elim, true≢false, arith}
use Rattle.std.specs.Ordering.{match_ordering}
use Rattle.table.specs.Laws.{HasKey, InsertAddsNewKeys, PartOf, PutReplacesItsKey, RemovalLeavesOtherKeys}
use Rattle.table.specs.Order.{TotalOrder}
use Rattle.table.specs.Table.{Ascends, insert_row, place, put_row}
use Rattle.table.proofs.Standing.{has, head_less, lacks, later_keys, not_own, turned}
use Rattle.table.proofs.Rising.{ordered_entered}

module _ {X : Type 0} where
  here : (x : X) (xs : List X) → Contains (x ∷ xs) x
  here x xs = (0, omega arith, refl)

  front : (x y : X) (ys : List X) → x ≡ y → Contains (y ∷ ys) x
  front x y ys q = subst (λ z. Contains (z ∷ ys) x) q (here x ys)

  there : (x y : X) (ys : List X) → Contains ys x → Contains (y ∷ ys) x
  there x y ys c = (suc c.0, omega (arith, c.1), c.2)

  none : (x : X) → Contains [] x → ⊥
  none x c = absurd (omega (arith, c.1))

  in_front : (x y : X) (ys : List X) → Contains (y ∷ ys) x → (x ≡ y) ⊎ Contains ys x
  in_front x y ys (zero, l, e) = inl (sym e)
  in_front x y ys (suc k, l, e) = inr (k, omega (arith, l), e)

  -- the rows that pass a test
  module _ (test : X → Bool) where
    passed_by : (x y : X) (ys : List X) (b : Bool) → test y ≡ b → (Contains (filter test ys) x → Contains ys x × (test x ≡ true)) → Contains (cond b (y ∷ filter test ys) (filter test ys)) x → Contains (y ∷ ys) x × (test x ≡ true)
    passed_by x y ys true e f c = ⊎_elim (λ q. (front x y ys q, ap test q ∙ e)) (λ d. let h = f d in (there x y ys h.0, h.1)) (in_front x y (filter test ys) c)
    passed_by x y ys false e f c = let h = f c in (there x y ys h.0, h.1)

    passed : (x : X) (xs : List X) → Contains (filter test xs) x → Contains xs x × (test x ≡ true)
    passed x [] c = absurd (none x c)
    passed x (y ∷ ys) c = passed_by x y ys (test y) refl (passed x ys) c

    passes_by : (x y : X) (ys : List X) (b : Bool) → test y ≡ b → test x ≡ true → (Contains ys x → Contains (filter test ys) x) → Contains (y ∷ ys) x → Contains (cond b (y ∷ filter test ys) (filter test ys)) x
    passes_by x y ys true e t f c = ⊎_elim (λ q. front x y (filter test ys) q) (λ d. there x y (filter test ys) (f d)) (in_front x y ys c)
    passes_by x y ys false e t f c = ⊎_elim (λ q. absurd (true≢false (sym t ∙ ap test q ∙ e))) f (in_front x y ys c)

    passes : (x : X) (xs : List X) → test x ≡ true → Contains xs x → Contains (filter test xs) x
    passes x [] t c = c
    passes x (y ∷ ys) t c = passes_by x y ys (test y) refl t (passes x ys t) c

    skips : (x : X) (ys xs : List X) → PartOf ys xs → PartOf ys (x ∷ xs)
    skips x [] xs h = tt
    skips x (y ∷ ys) xs h = inr h

    part_by : (x : X) (xs : List X) (b : Bool) → PartOf (filter test xs) xs → PartOf (cond b (x ∷ filter test xs) (filter test xs)) (x ∷ xs)
    part_by x xs true h = inl (refl, h)
    part_by x xs false h = skips x (filter test xs) xs h

    part : (xs : List X) → PartOf (filter test xs) xs
    part [] = tt
    part (x ∷ xs) = part_by x xs (test x) (part xs)

module _ {X K : Type 0} (o : K → K → Ordering) (key : X → K) (t : TotalOrder o) where
  key_of : (x : X) (xs : List X) → Contains xs x → HasKey key (key x) xs
  key_of x [] c = absurd (none x c)
  key_of x (y ∷ ys) c = ⊎_elim (λ q. front (key x) (key y) (map key ys) (ap key q)) (λ d. there (key x) (key y) (map key ys) (key_of x ys d)) (in_front x y ys c)

  -- a key that is less than the first is none of them
  lower_lacks : (k : K) (y : X) (ys : List X) → o k (key y) ≡ Less → Ascends o (map key (y ∷ ys)) → HasKey key k (y ∷ ys) → ⊥
  lower_lacks k y ys e up c = ⊎_elim
      (λ q. not_own o t k (key y) q e)
      (λ d. not_own o t k k refl (t.laws.trans k (key y) k e (head_less o t (key y) k (map key ys) up d)))
      (in_front k (key y) (map key ys) c)

  apart : (k : K) (y : X) → o k (key y) ≡ Greater → k ≡ key y → ⊥
  apart k y e q = not_own o t (key y) k (sym q) (turned o t k (key y) Greater e)

  -- ---- insertion

  abbrev entered : X → List X → List X
  entered r xs = insert_row o key r xs

  abbrev Added : X → X → List X → Type 0
  Added x r xs = Contains xs x ⊎ ((x ≡ r) × (HasKey key (key r) xs → ⊥))

  added_later : (x r y : X) (ys : List X) → o (key r) (key y) ≡ Greater → Added x r ys → Added x r (y ∷ ys)
  added_later x r y ys e (inl c) = inl (there x y ys c)
  added_later x r y ys e (inr n) = inr (n.0, λ c. ⊎_elim (apart (key r) y e) n.1 (in_front (key r) (key y) (map key ys) c))

  added_by : (x r y : X) (ys : List X) (a : Ordering) → o (key r) (key y) ≡ a → Ascends o (map key (y ∷ ys)) → (Contains (entered r ys) x → Added x r ys) → Contains (match_ordering a (r ∷ y ∷ ys) (y ∷ ys) (y ∷ entered r ys)) x → Added x r (y ∷ ys)
  added_by x r y ys Less e up f c = ⊎_elim (λ q. inr (q, lower_lacks (key r) y ys e up)) (λ d. inl d) (in_front x r (y ∷ ys) c)
  added_by x r y ys Equal e up f c = inl c
  added_by x r y ys Greater e up f c = ⊎_elim (λ q. inl (front x y ys q)) (λ d. added_later x r y ys e (f d)) (in_front x y (entered r ys) c)

  added : (x r : X) (xs : List X) → Ascends o (map key xs) → Contains (entered r xs) x → Added x r xs
  added x r [] up c = ⊎_elim (λ q. inr (q, none (key r))) (λ d. inl d) (in_front x r [] c)
  added x r (y ∷ ys) up c = added_by x r y ys (o (key r) (key y)) refl up (added x r ys (later_keys o t (key y) (map key ys) up)) c

  stays_by : (x r y : X) (ys : List X) (a : Ordering) → (Contains ys x → Contains (entered r ys) x) → Contains (y ∷ ys) x → Contains (match_ordering a (r ∷ y ∷ ys) (y ∷ ys) (y ∷ entered r ys)) x
  stays_by x r y ys Less f c = there x r (y ∷ ys) c
  stays_by x r y ys Equal f c = c
  stays_by x r y ys Greater f c = ⊎_elim (λ q. front x y (entered r ys) q) (λ d. there x y (entered r ys) (f d)) (in_front x y ys c)

  stays : (x r : X) (xs : List X) → Contains xs x → Contains (entered r xs) x
  stays x r [] c = absurd (none x c)
  stays x r (y ∷ ys) c = stays_by x r y ys (o (key r) (key y)) (stays x r ys) c

  comes_by : (r y : X) (ys : List X) (a : Ordering) → o (key r) (key y) ≡ a → (HasKey key (key r) (y ∷ ys) → ⊥) → ((HasKey key (key r) ys → ⊥) → Contains (entered r ys) r) → Contains (match_ordering a (r ∷ y ∷ ys) (y ∷ ys) (y ∷ entered r ys)) r
  comes_by r y ys Less e n f = here r (y ∷ ys)
  comes_by r y ys Equal e n f = absurd (n (front (key r) (key y) (map key ys) (t.same (key r) (key y) e)))
  comes_by r y ys Greater e n f = there r y (entered r ys) (f (λ c. n (there (key r) (key y) (map key ys) c)))

  comes : (r : X) (xs : List X) → (HasKey key (key r) xs → ⊥) → Contains (entered r xs) r
  comes r [] n = here r []
  comes r (y ∷ ys) n = comes_by r y ys (o (key r) (key y)) refl n (comes r ys)

  pub insert_adds : InsertAddsNewKeys o key
  insert_adds = record {
    members = λ r xs h x. (added x r xs h.up, λ c. ⊎_elim (stays x r xs) (λ n. subst (λ z. Contains (entered r xs) z) (sym n.0) (comes r xs n.1)) c);
    ordered = ordered_entered o key t (λ r x. x) (λ r x e. refl);
  }

  -- ---- replacement

  abbrev over : X → List X → List X
  over r xs = put_row o key r xs

  abbrev Replaced : X → X → List X → Type 0
  Replaced x r xs = (x ≡ r) ⊎ (Contains xs x × (key x ≢ key r))

  replaced_later : (x r y : X) (ys : List X) → Replaced x r ys → Replaced x r (y ∷ ys)
  replaced_later x r y ys (inl q) = inl q
  replaced_later x r y ys (inr h) = inr (there x y ys h.0, h.1)

  replaced_by : (x r y : X) (ys : List X) (a : Ordering) → o (key r) (key y) ≡ a → Ascends o (map key (y ∷ ys)) → (Contains (over r ys) x → Replaced x r ys) → Contains (match_ordering a (r ∷ y ∷ ys) (r ∷ ys) (y ∷ over r ys)) x → Replaced x r (y ∷ ys)
  replaced_by x r y ys Less e up f c = ⊎_elim
      (λ q. inl q)
      (λ d. inr (d, λ q. lower_lacks (key r) y ys e up (subst (λ k. HasKey key k (y ∷ ys)) q (key_of x (y ∷ ys) d))))
      (in_front x r (y ∷ ys) c)
  replaced_by x r y ys Equal e up f c = ⊎_elim
      (λ q. inl q)
      (λ d. inr (there x y ys d, λ q. not_own o t (key y) (key x) (sym (t.same (key r) (key y) e) ∙ sym q) (head_less o t (key y) (key x) (map key ys) up (key_of x ys d))))
      (in_front x r ys c)
  replaced_by x r y ys Greater e up f c = ⊎_elim
      (λ q. inr (front x y ys q, λ g. apart (key r) y e (sym g ∙ ap key q)))
      (λ d. replaced_later x r y ys (f d))
      (in_front x y (over r ys) c)

  replaced : (x r : X) (xs : List X) → Ascends o (map key xs) → Contains (over r xs) x → Replaced x r xs
  replaced x r [] up c = ⊎_elim (λ q. inl q) (λ d. absurd (none x d)) (in_front x r [] c)
  replaced x r (y ∷ ys) up c = replaced_by x r y ys (o (key r) (key y)) refl up (replaced x r ys (later_keys o t (key y) (map key ys) up)) c

  own_by : (r y : X) (ys : List X) (a : Ordering) → Contains (over r ys) r → Contains (match_ordering a (r ∷ y ∷ ys) (r ∷ ys) (y ∷ over r ys)) r
  own_by r y ys Less c = here r (y ∷ ys)
  own_by r y ys Equal c = here r ys
  own_by r y ys Greater c = there r y (over r ys) c

  own : (r : X) (xs : List X) → Contains (over r xs) r
  own r [] = here r []
  own r (y ∷ ys) = own_by r y ys (o (key r) (key y)) (own r ys)

  others_by : (x r y : X) (ys : List X) (a : Ordering) → o (key r) (key y) ≡ a → (key x ≢ key r) → (Contains ys x → Contains (over r ys) x) → Contains (y ∷ ys) x → Contains (match_ordering a (r ∷ y ∷ ys) (r ∷ ys) (y ∷ over r ys)) x
  others_by x r y ys Less e n f c = there x r (y ∷ ys) c
  others_by x r y ys Equal e n f c = ⊎_elim (λ q. absurd (n (ap key q ∙ sym (t.same (key r) (key y) e)))) (λ d. there x r ys d) (in_front x y ys c)
  others_by x r y ys Greater e n f c = ⊎_elim (λ q. front x y (over r ys) q) (λ d. there x y (over r ys) (f d)) (in_front x y ys c)

  others_stay : (x r : X) (xs : List X) → (key x ≢ key r) → Contains xs x → Contains (over r xs) x
  others_stay x r [] n c = absurd (none x c)
  others_stay x r (y ∷ ys) n c = others_by x r y ys (o (key r) (key y)) refl n (others_stay x r ys n) c

  pub put_replaces : PutReplacesItsKey o key
  put_replaces = record {
    members = λ r xs h x. (replaced x r xs h.up, λ c. ⊎_elim (λ q. subst (λ z. Contains (over r xs) z) (sym q) (own r xs)) (λ n. others_stay x r xs n.1 n.0) c);
    ordered = ordered_entered o key t (λ r x. r) (λ r x e. e);
  }

  -- ---- removal

  errs : (k : K) (ks : List K) → Ascends o ks → (Contains ks k → ⊥) → (b : Bool) → is_err (place o k ks) ≡ b → b ≡ true
  errs k ks up n true e = refl
  errs k ks up n false e = absurd (n (has o t k ks up e))

  pub removal_leaves : RemovalLeavesOtherKeys o key
  removal_leaves = record {
    members = λ others xs h x.
        let test : X → Bool = λ r. is_err (place o (key r) (map key others)) in (
          (λ c. let p = passed test x xs c in (p.0, lacks o t (key x) (map key others) h.up p.1)),
          (λ p. passes test x xs (errs (key x) (map key others) h.up p.1 (test x) refl) p.0),
        );
    part = λ others xs. part (λ r. is_err (place o (key r) (map key others))) xs;
  }
