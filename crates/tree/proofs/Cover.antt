-- Rows that each lie in a child of the row that encloses them have lawful ends.
use Rattle.std.proofs.Common.{◌≡◌, ℕ, zero, suc, ◌+◌, ◌<◌, ◌≤◌, ◌⊎◌, inl, inr, min, List, length, Some, None, Option, ap, ◌∙◌, subst, ⊎_elim, arith, below_more}
use Rattle.std.specs.Prelude.{MatchOption}
use Rattle.std.specs.Option.{unwrap_or}
use Rattle.std.proofs.lemmas.Bool.{cases_lt}
use Rattle.tree.specs.declared.row.Row.{Row}
use Rattle.tree.specs.Forest.{end_at, LawfulEnd}
use Rattle.tree.specs.First.{Covered}

module _ (rs : List Row) where
  pub covered_more : (i c : ℕ) → i < c → Covered rs i c → end_at rs c ≤ end_at rs i → Covered rs i (end_at rs c)
  covered_more i c h cov le x a b = ⊎_elim (λ q. cov x a q) (λ q. (c, h, q, b, le)) (cases_lt x c)

  pub covered_up_to : (i a b : ℕ) → a ≤ b → Covered rs i b → Covered rs i a
  covered_up_to i a b h cov x p q = cov x p (omega arith)

  module _ (n : ℕ) (cov : (i : ℕ) → i < n → Covered rs i (min (end_at rs i) n)) where
    within_by : (f : ℕ) (i c : ℕ) → c < n → c ≤ i + f → i < c → c < end_at rs i → end_at rs c ≤ end_at rs i
    within_by zero i c l d a b = absurd (omega arith)
    within_by (suc f) i c l d a b =
        let (m, p, q, r, s) = cov i (omega arith) c a (omega arith) in
        ⊎_elim
        (λ w. let t : end_at rs c ≤ end_at rs m = within_by f m c l (omega arith) w r in omega arith)
        (λ w. let e : m ≡ c = omega arith in subst (λ x. end_at rs x ≤ end_at rs i) e s)
        (cases_lt m c)

    pub lawful_below : end_at rs 0 ≡ length rs → ((i : ℕ) → i < n → i < end_at rs i) → (j : ℕ) → j < n → LawfulEnd rs j
    lawful_below w up j h =
        record {
          above = up j h;
          within = λ i e. within_by j i j h (omega arith) e.0 e.1;
          whole = λ z. ap (end_at rs) z ∙ w;
        }

  -- the rows below j are looked at, and none below `limit` is known to be unlawful
  pub record Looked (j limit : ℕ) : Type 0 where
    pub reached : j ≤ limit
    pub in_rows : limit ≤ length rs
    pub unlawful : limit < length rs → LawfulEnd rs limit → ⊥
    pub above : (i : ℕ) → i < j → i < end_at rs i
    pub covered : (i : ℕ) → i < j → Covered rs i (min (end_at rs i) limit)

  pub lawful_to : (j limit : ℕ) → Looked j limit → end_at rs 0 ≡ length rs → (i : ℕ) → i < j → LawfulEnd rs i
  lawful_to j limit l w = lawful_below j (λ i h. covered_up_to i _ _ (omega (arith, l.reached)) (l.covered i h)) w l.above

  pub offends : (j limit : ℕ) → Looked j limit → j < length rs → (j ≡ limit) ⊎ (end_at rs j ≤ j) → LawfulEnd rs j → ⊥
  offends j limit l h (inl e) s = l.unlawful (omega arith) (subst (LawfulEnd rs) e s)
  offends j limit l h (inr n) s = omega (arith, s.above)

  pub look : (j limit : ℕ) (o : Option ℕ) → Looked j limit → j < limit → j < end_at rs j → MatchOption o (Covered rs j (min (end_at rs j) limit)) (λ c. (j < c) × (c < limit) × (LawfulEnd rs c → ⊥) × Covered rs j (min (end_at rs j) c)) → Looked (j + 1) (unwrap_or o limit)
  look j limit None l h up m =
      record {
        reached = omega arith;
        in_rows = l.in_rows;
        unlawful = l.unlawful;
        above = below_more _ _ l.above up;
        covered = below_more _ _ l.covered m;
      }
  look j limit (Some c) l h up m =
      record {
        reached = omega arith;
        in_rows = omega (arith, l.in_rows);
        unlawful = λ k. m.2;
        above = below_more _ _ l.above up;
        covered = below_more _ _ (λ i k. covered_up_to i _ _ (omega arith) (l.covered i k)) m.3;
      }
