-- The rows at the top of a tree are those that no other row of it encloses, in order.
use Rattle.std.proofs.Common.{◌≡◌, ℕ, zero, suc, ◌+◌, ◌<◌, ◌≤◌, List, sym, refl, subst, inl, inr, ⊎_elim, arith}
use Rattle.std.proofs.lemmas.Bool.{cases_lt}
use Rattle.tree.specs.declared.row.Row.{Row}
use Rattle.tree.specs.Enclosure.{Carries, ChildrenAreEnclosedDirectly, ChildrenCarryTheirRows, ChildrenStandInOrder, EnclosesDirectly, Rises, Stands}
use Rattle.tree.specs.Forest.{Encloses, Nested, children, end_at, forest}
use Rattle.tree.proofs.Grown.{Span, forest_none, forest_some, span_children, span_rest}

module _ (rs : List Row) (law : Nested rs) where
  -- row c lies from a up to e, and no row from a on encloses it
  record Top (a e c : ℕ) : Type 0 where
    pub low : a ≤ c
    pub high : c < e
    pub free : (i : ℕ) → a ≤ i → Encloses rs i c → ⊥

  top : (f a e c : ℕ) → e ≤ a + f → Span rs a e → Stands c (forest rs a e) → Top a e c
  top zero a e c l s t = absurd (subst (Stands c) (forest_none rs law a e (omega arith)) t)
  top (suc f) a e c l s t =
      ⊎_elim
      (λ h.
      let up : a < end_at rs a = law.above a (omega (arith, s.in_rows)) in
      ⊎_elim
      (λ q. record { low = omega arith; high = omega arith; free = λ i p x. omega (arith, x.0) })
      (λ q.
      let n = top f (end_at rs a) e c (omega arith) (span_rest rs law a e h s) q in
      let inner : (i : ℕ) → a ≤ i → i < end_at rs a → c < end_at rs i → ⊥ = λ i p y x. ⊎_elim
      (λ z. let w : end_at rs i ≤ end_at rs a = law.within a i z y in omega (arith, n.low))
      (λ z. let w : i ≡ a = omega arith in omega (arith, n.low, subst (λ k. c < end_at rs k) w x))
      (cases_lt a i) in
      record {
        low = omega (arith, n.low);
        high = n.high;
        free = λ i p x. ⊎_elim (λ y. inner i p y x.1) (λ y. n.free i y x) (cases_lt i (end_at rs a));
      })
      (subst (Stands c) (forest_some rs law a e h s) t))
      (λ h. absurd (subst (Stands c) (forest_none rs law a e h) t))
      (cases_lt a e)

  stands : (f a e c : ℕ) → e ≤ a + f → Span rs a e → Top a e c → Stands c (forest rs a e)
  stands zero a e c l s t = absurd (omega (arith, t.low, t.high))
  stands (suc f) a e c l s t =
      let h : a < e = omega (arith, t.low, t.high) in
      let up : a < end_at rs a = law.above a (omega (arith, s.in_rows)) in
      subst (Stands c) (sym (forest_some rs law a e h s))
      (⊎_elim
      (λ q.
      let past : end_at rs a ≤ c = ⊎_elim (λ x. absurd (t.free a (omega arith) (q, x))) (λ x. x) (cases_lt c (end_at rs a)) in
      inr (stands f (end_at rs a) e c (omega arith) (span_rest rs law a e h s) (record { low = past; high = t.high; free = λ i p x. t.free i (omega arith) x })))
      (λ q. inl (omega (arith, t.low)))
      (cases_lt a c))

  rises : (f a e from : ℕ) → from ≤ a → e ≤ a + f → Span rs a e → Rises from (forest rs a e)
  rises zero a e from le l s = subst (Rises from) (sym (forest_none rs law a e (omega arith))) tt
  rises (suc f) a e from le l s =
      ⊎_elim
      (λ h.
      let up : a < end_at rs a = law.above a (omega (arith, s.in_rows)) in
      subst (Rises from) (sym (forest_some rs law a e h s)) (le, rises f (end_at rs a) e (a + 1) (omega arith) (omega arith) (span_rest rs law a e h s)))
      (λ h. subst (Rises from) (sym (forest_none rs law a e h)) tt)
      (cases_lt a e)

  carries : (f a e : ℕ) → e ≤ a + f → Span rs a e → Carries rs (forest rs a e)
  carries zero a e l s = subst (Carries rs) (sym (forest_none rs law a e (omega arith))) tt
  carries (suc f) a e l s =
      ⊎_elim
      (λ h.
      let up : a < end_at rs a = law.above a (omega (arith, s.in_rows)) in
      subst (Carries rs) (sym (forest_some rs law a e h s)) (refl, refl, carries f (end_at rs a) e (omega arith) (span_rest rs law a e h s)))
      (λ h. subst (Carries rs) (sym (forest_none rs law a e h)) tt)
      (cases_lt a e)

pub children_are_enclosed_directly : ChildrenAreEnclosedDirectly
children_are_enclosed_directly rs law j c = (to, back)
  where
    to : Stands c (children rs j) → EnclosesDirectly rs j c
    to t =
        ⊎_elim
        (λ up.
        let n = top rs law (end_at rs j) (j + 1) (end_at rs j) c (omega arith) (span_children rs law j up) t in
        ((omega (arith, n.low), n.high), λ i x y. n.free i (omega (arith, x.0)) y))
        (λ down. absurd (subst (Stands c) (forest_none rs law (j + 1) (end_at rs j) (omega arith)) t))
        (cases_lt j (end_at rs j))

    back : EnclosesDirectly rs j c → Stands c (children rs j)
    back (e, free) =
        stands rs law (end_at rs j) (j + 1) (end_at rs j) c (omega arith) (span_children rs law j (omega (arith, e.0, e.1)))
        (record { low = omega (arith, e.0); high = e.1; free = λ i p x. free i (omega arith, omega (arith, x.0, e.1)) x })

pub children_stand_in_order : ChildrenStandInOrder
children_stand_in_order rs law j =
    ⊎_elim
    (λ up. rises rs law (end_at rs j) (j + 1) (end_at rs j) (j + 1) (omega arith) (omega arith) (span_children rs law j up))
    (λ down. subst (Rises (j + 1)) (sym (forest_none rs law (j + 1) (end_at rs j) (omega arith))) tt)
    (cases_lt j (end_at rs j))

pub children_carry_their_rows : ChildrenCarryTheirRows
children_carry_their_rows rs law j =
    ⊎_elim
    (λ up. carries rs law (end_at rs j) (j + 1) (end_at rs j) (omega arith) (span_children rs law j up))
    (λ down. subst (Carries rs) (sym (forest_none rs law (j + 1) (end_at rs j) (omega arith))) tt)
    (cases_lt j (end_at rs j))
