-- How the tree of the rows from j up to e is made of its first row's and its later siblings'.
use Rattle.std.proofs.Common.{◌≡◌, ℕ, zero, suc, ◌+◌, ◌-◌, ◌<◌, ◌≤◌, List, length, Some, sym, refl, ap, ◌∙◌, ⊎_elim, arith}
use Rattle.std.proofs.lemmas.List.{get_or_past}
use Rattle.std.proofs.lemmas.Bool.{cases_lt, lt-ltb, le-ltb, cond-true, cond-false, and_from, and_left, and_right}
use Rattle.tree.specs.declared.row.Row.{Row}
use Rattle.tree.specs.Forest.{Forest, nil, node, forced, grown, forest, blank, row_at, end_at, children, siblings, since, LawfulEnd, Nested}

pub end_past : (rs : List Row) (j : ℕ) → length rs ≤ j → end_at rs j ≡ 0
end_past rs j h = ap (λ r. r.end) (get_or_past rs j blank h)

pub nested : (rs : List Row) → ((j : ℕ) → j < length rs → LawfulEnd rs j) → Nested rs
nested rs all =
    record {
      above = λ j h. (all j h).above;
      within = λ i j a b. ⊎_elim (λ h. (all j h).within i (a, b)) (λ h. omega (arith, end_past rs j h)) (cases_lt j (length rs));
      whole = ⊎_elim (λ h. (all 0 h).whole refl) (λ h. omega (arith, end_past rs 0 h)) (cases_lt 0 (length rs));
    }

-- no row from j up to e ends past e
pub record Span (rs : List Row) (j e : ℕ) : Type 0 where
  pub in_rows : e ≤ length rs
  pub closed : (k : ℕ) → j ≤ k → k < e → end_at rs k ≤ e

forced_is : {A : Type 0} (n : ℕ) (k : ℕ → A) → forced n k ≡ k n
forced_is zero k = refl
forced_is (suc n) k = refl

module _ (rs : List Row) (law : Nested rs) where
  pub span_children_in : (j : ℕ) → end_at rs j ≤ length rs → Span rs (j + 1) (end_at rs j)
  span_children_in j le = record { in_rows = le; closed = λ k a b. law.within j k (omega arith) b }

  pub span_rest : (j e : ℕ) → j < e → Span rs j e → Span rs (end_at rs j) e
  span_rest j e h s =
      let a : j < end_at rs j = law.above j (omega (arith, s.in_rows)) in
      record { in_rows = s.in_rows; closed = λ k p q. s.closed k (omega arith) q }

  grown_none : (f : ℕ) (j e : ℕ) → e ≤ j → grown f rs j e ≡ nil
  unfolding grown
  grown_none zero j e h = refl
  grown_none (suc f) j e h = cond-false _ _ _ (le-ltb j e h)

  grown_some : (f : ℕ) (j e : ℕ) → j < e → grown (suc f) rs j e ≡ node j (row_at rs j) (grown f rs (j + 1) (end_at rs j)) (grown f rs (end_at rs j) e)
  unfolding grown
  grown_some f j e h =
      let N : ℕ → ℕ → Forest = λ i k. node j (row_at rs j) (grown f rs i k) (grown f rs k e) in
      cond-true _ _ _ (lt-ltb j e h) ∙ forced_is (j + 1) (λ i. forced (end_at rs j) (N i)) ∙ forced_is (end_at rs j) (N (j + 1))

  grown_same : (f g : ℕ) (j e : ℕ) → Span rs j e → e ≤ j + f → e ≤ j + g → grown f rs j e ≡ grown g rs j e
  grown_same zero g j e s a b = grown_none zero j e (omega arith) ∙ sym (grown_none g j e (omega arith))
  grown_same (suc f) zero j e s a b = grown_none (suc f) j e (omega arith) ∙ sym (grown_none zero j e (omega arith))
  grown_same (suc f) (suc g) j e s a b =
      ⊎_elim
      (λ h.
      let up : j < end_at rs j = law.above j (omega (arith, s.in_rows)) in
      let le : end_at rs j ≤ e = s.closed j (omega arith) h in
      let under = grown_same f g (j + 1) (end_at rs j) (span_children_in j (omega (arith, s.in_rows))) (omega arith) (omega arith) in
      let rest = grown_same f g (end_at rs j) e (span_rest j e h s) (omega arith) (omega arith) in
      let x = grown_some f j e h in
      let y = grown_some g j e h in
      cc)
      (λ h. grown_none (suc f) j e h ∙ sym (grown_none (suc g) j e h))
      (cases_lt j e)

  pub forest_none : (j e : ℕ) → e ≤ j → forest rs j e ≡ nil
  unfolding forest
  forest_none j e h = grown_none (e - j) j e h

  pub forest_some : (j e : ℕ) → j < e → Span rs j e → forest rs j e ≡ node j (row_at rs j) (forest rs (j + 1) (end_at rs j)) (forest rs (end_at rs j) e)
  unfolding forest
  forest_some j e h s =
      let up : j < end_at rs j = law.above j (omega (arith, s.in_rows)) in
      let le : end_at rs j ≤ e = s.closed j (omega arith) h in
      let whole = grown_same (e - j) (suc (e - j)) j e s (omega arith) (omega arith) in
      let under = grown_same (e - j) (end_at rs j - (j + 1)) (j + 1) (end_at rs j) (span_children_in j (omega (arith, s.in_rows))) (omega arith) (omega arith) in
      let rest = grown_same (e - j) (e - end_at rs j) (end_at rs j) e (span_rest j e h s) (omega arith) (omega arith) in
      let x = grown_some (e - j) j e h in
      cc

  pub end_in_rows : (j : ℕ) → j < length rs → end_at rs j ≤ length rs
  end_in_rows zero h = omega (arith, law.whole)
  end_in_rows (suc j) h = let w : end_at rs (suc j) ≤ end_at rs 0 = law.within 0 (suc j) (omega arith) (omega (arith, law.whole)) in omega (arith, law.whole)

  pub in_rows_from : (j : ℕ) → j < end_at rs j → j < length rs
  in_rows_from j h = ⊎_elim (λ l. l) (λ l. omega (arith, end_past rs j l)) (cases_lt j (length rs))

  pub span_children : (j : ℕ) → j < end_at rs j → Span rs (j + 1) (end_at rs j)
  span_children j h = span_children_in j (end_in_rows j (in_rows_from j h))

  pub span_all : (j : ℕ) → Span rs j (length rs)
  span_all j = record { in_rows = omega arith; closed = λ k a b. end_in_rows k b }

  span_from : (j k e : ℕ) → j ≤ k → Span rs j e → Span rs k e
  span_from j k e h s = record { in_rows = s.in_rows; closed = λ x a b. s.closed x (omega arith) b }

  pub siblings_in : (c j : ℕ) → j < c → c < end_at rs c → siblings rs c j ≡ forest rs (end_at rs c) (end_at rs j)
  siblings_in c j a b = cond-true _ _ _ (and_from _ _ (lt-ltb j c a) (lt-ltb c (end_at rs c) b))

  -- row d and its later siblings, where it stands among the children of row j
  since_some : (d j : ℕ) → j < d → d < end_at rs j → forest rs d (end_at rs j) ≡ since rs j (Some d)
  since_some d j h l =
      let s = span_from (j + 1) d (end_at rs j) (omega arith) (span_children j (omega arith)) in
      let up : d < end_at rs d = law.above d (omega (arith, s.in_rows)) in
      forest_some d (end_at rs j) l s ∙ ap (node d (row_at rs d) (children rs d)) (sym (siblings_in d j h up))

  pub children_some : (j : ℕ) → j + 1 < end_at rs j → children rs j ≡ since rs j (Some (j + 1))
  children_some j h = since_some (j + 1) j (omega arith) h

  pub siblings_some : (c j : ℕ) → j < c → c < end_at rs c → end_at rs c < end_at rs j → siblings rs c j ≡ since rs j (Some (end_at rs c))
  siblings_some c j h up l = siblings_in c j h up ∙ since_some (end_at rs c) j (omega arith) l

  pub siblings_none : (c j : ℕ) → ((j < c) → (c < end_at rs c) → end_at rs j ≤ end_at rs c) → siblings rs c j ≡ nil
  siblings_none c j h =
      ⊎_elim
      (λ a. ⊎_elim (λ b. siblings_in c j a b ∙ forest_none _ _ (h a b)) (λ b. cond-false _ _ _ (and_right _ _ (le-ltb c (end_at rs c) b))) (cases_lt c (end_at rs c)))
      (λ a. cond-false _ _ _ (and_left _ _ (le-ltb j c a)))
      (cases_lt j c)
