-- The walk comes to the rows under no skipped row, in rising order.
use Rattle.std.proofs.Common.{◌≡◌, ℕ, zero, suc, ◌+◌, ◌<◌, ◌≤◌, Bool, true, false, cond, List, [], ◌∷◌, ◌++◌, length, sym, refl, ap, ◌∙◌, subst, inl, inr, ⊎_elim, true≢false, arith}
use Rattle.std.proofs.lemmas.Bool.{cases_lt}
use Rattle.tree.specs.declared.row.Row.{Row}
use Rattle.tree.specs.Forest.{Encloses, Nested, end_at, row_at}
use Rattle.tree.proofs.Grown.{nested}
use Rattle.cjs_law.specs.Lists.{In}
use Rattle.cjs_law.specs.Rows.{LawfulEnds, UnderNoSkippedRow, WalkRises, WalkedRowsAreThoseUnderNoSkippedRow, visit_at}
use Rattle.cjs_law.specs.Walk.{Visit, skips, walk}
use Rattle.cjs_law.proofs.Onward.{left, left_none, left_on}

-- each has a greater number than those before it
abbrev pub Rising : List Visit → Type 0
Rising [] = Unit {0}
Rising (v ∷ vs) = ((w : Visit) → In w vs → v.number < w.number) × Rising vs

module _ (rs : List Row) (law : Nested rs) where
  -- row i is one of those from row j on, and no row from there on that encloses it is skipped
  abbrev FreeFrom : ℕ → ℕ → Type 0
  FreeFrom j i = (j ≤ i) × (i < length rs) × ((k : ℕ) → j ≤ k → Encloses rs k i → skips (row_at rs k) ≡ false)

  abbrev Left : ℕ → Visit → Type 0
  Left j v = FreeFrom j v.number × (v ≡ visit_at rs v.number)

  here : (j : ℕ) → j < length rs → (v : Visit) → v ≡ visit_at rs j → Left j v
  here j h v e =
      let n : v.number ≡ j = ap (λ (z : Visit). z.number) e in
      ((omega (arith, n), omega (arith, n, h), λ k a x. absurd (omega (arith, n, x.0))), e ∙ ap (visit_at rs) (sym n))

  past_end : (j i k : ℕ) → end_at rs j ≤ i → j ≤ k → Encloses rs k i → end_at rs j ≤ k
  past_end j i k l a x =
      ⊎_elim
      (λ y.
      let inner : j < k → ⊥ = λ z. let w : end_at rs k ≤ end_at rs j = law.within j k z y in omega (arith, x.1) in
      let same : j ≡ k → ⊥ = λ z. let w : i < end_at rs j = subst (λ q. i < end_at rs q) (sym z) x.1 in omega arith in
      ⊎_elim (λ z. absurd (inner z)) (λ z. absurd (same (omega arith))) (cases_lt j k))
      (λ y. y)
      (cases_lt k (end_at rs j))

  over : (j : ℕ) → j < length rs → (v : Visit) → Left (end_at rs j) v → Left j v
  over j h v l =
      let up : j < end_at rs j = law.above j h in
      let (from, low, free) = l.0 in
      ((omega arith, low, λ k a x. free k (past_end j v.number k from a x) x), l.1)

  next : (j : ℕ) → skips (row_at rs j) ≡ false → (v : Visit) → Left (j + 1) v → Left j v
  next j s v l =
      let (from, low, free) = l.0 in
      ((omega arith, low, λ k a x. ⊎_elim (λ y. free k (omega arith) x) (λ y. let e : j ≡ k = omega arith in subst (λ q. skips (row_at rs q) ≡ false) e s) (cases_lt j k)), l.1)

  on : (j : ℕ) → j < length rs → (v : Visit) (t : Bool) → skips (row_at rs j) ≡ t → Left (cond t (end_at rs j) (j + 1)) v → Left j v
  on j h v true s l = over j h v l
  on j h v false s l = next j s v l

  beyond : (j : ℕ) → j < length rs → (t : Bool) → j < cond t (end_at rs j) (j + 1)
  beyond j h true = law.above j h
  beyond j h false = omega arith

  abbrev then : ℕ → ℕ
  then j = cond (skips (row_at rs j)) (end_at rs j) (j + 1)

  pub comes : (f j : ℕ) → length rs ≤ j + f → (v : Visit) → In v (left rs law j) → Left j v
  comes zero j l v i = absurd (subst (In v) (left_none rs law j (omega arith)) i)
  comes (suc f) j l v i =
      ⊎_elim
      (λ h.
      let more : j < then j = beyond j h (skips (row_at rs j)) in
      ⊎_elim
      (λ e. here j h v e)
      (λ k. on j h v (skips (row_at rs j)) refl (comes f (then j) (omega arith) v k))
      (subst (In v) (left_on rs law j h) i))
      (λ h. absurd (subst (In v) (left_none rs law j h) i))
      (cases_lt j (length rs))

  skip_to : (j : ℕ) (v : Visit) (t : Bool) → skips (row_at rs j) ≡ t → j < v.number → Left j v → Left (cond t (end_at rs j) (j + 1)) v
  skip_to j v true s h l =
      let (from, low, free) = l.0 in
      let past : end_at rs j ≤ v.number = ⊎_elim (λ x. absurd (true≢false (sym s ∙ free j (omega arith) (h, x)))) (λ x. x) (cases_lt v.number (end_at rs j)) in
      ((past, low, λ k a x. ⊎_elim (λ y. free k (omega arith) x) (λ y. free k (omega (arith, x.0)) x) (cases_lt j k)), l.1)
  skip_to j v false s h l = let (from, low, free) = l.0 in ((omega arith, low, λ k a x. free k (omega arith) x), l.1)

  pub come_to : (f j : ℕ) → length rs ≤ j + f → (v : Visit) → Left j v → In v (left rs law j)
  come_to zero j l v w = absurd (omega (arith, w.0.0, w.0.1))
  come_to (suc f) j l v w =
      let h : j < length rs = omega (arith, w.0.0, w.0.1) in
      let more : j < then j = beyond j h (skips (row_at rs j)) in
      subst (In v) (sym (left_on rs law j h))
      (⊎_elim
      (λ x. inr (come_to f (then j) (omega arith) v (skip_to j v (skips (row_at rs j)) refl x w)))
      (λ x. let e : v.number ≡ j = omega (arith, w.0.0) in inl (w.1 ∙ ap (visit_at rs) e))
      (cases_lt j v.number))

  pub rising : (f j : ℕ) → length rs ≤ j + f → Rising (left rs law j)
  rising zero j l = subst Rising (sym (left_none rs law j (omega arith))) tt
  rising (suc f) j l =
      ⊎_elim
      (λ h.
      let more : j < then j = beyond j h (skips (row_at rs j)) in
      subst Rising (sym (left_on rs law j h)) ((λ w i. let c = comes f (then j) (omega arith) w i in omega (arith, c.0.0)), rising f (then j) (omega arith)))
      (λ h. subst Rising (sym (left_none rs law j h)) tt)
      (cases_lt j (length rs))

module _ (rs : List Row) (ends : LawfulEnds rs) where
  pub walk_comes : (v : Visit) → In v (walk rs) → UnderNoSkippedRow rs v.number × (v ≡ visit_at rs v.number)
  walk_comes v i = let l = comes rs (nested rs ends) (length rs) 0 (omega arith) v i in ((l.0.1, λ k x. l.0.2 k (omega arith) x), l.1)

  pub walk_comes_to : (v : Visit) → UnderNoSkippedRow rs v.number → v ≡ visit_at rs v.number → In v (walk rs)
  walk_comes_to v u e = come_to rs (nested rs ends) (length rs) 0 (omega arith) v ((omega arith, u.0, λ k a x. u.1 k x), e)

  pub walk_rising : Rising (walk rs)
  walk_rising = rising rs (nested rs ends) (length rs) 0 (omega arith)

pub walked_rows_are_those_under_no_skipped_row : WalkedRowsAreThoseUnderNoSkippedRow
walked_rows_are_those_under_no_skipped_row rs ends v = (walk_comes rs ends v, λ u. walk_comes_to rs ends v u.0 u.1)

rises_after : (before after : List Visit) (v w : Visit) → Rising (before ++ v ∷ after) → In w after → v.number < w.number
rises_after [] after v w r i = r.0 w i
rises_after (x ∷ before) after v w r i = rises_after before after v w r.1 i

pub walk_rises : WalkRises
walk_rises rs ends before after v w e i = rises_after before after v w (subst Rising e (walk_rising rs ends)) i
