-- What `deep` finds is the first row that more than 256 rows enclose.
use Rattle.std.proofs.Common.{◌≡◌, ℕ, zero, suc, ◌+◌, ◌-◌, ◌<◌, ◌≤◌, cond, ltb, List, length, Some, None, Option, sym, refl, ap, ◌∙◌, subst, ⊎_elim, add-one, arith}
use Rattle.std.proofs.lemmas.Bool.{cases_lt, lt-ltb, le-ltb}
use Rattle.std.specs.Option.{option_or}
use Rattle.tree.specs.declared.row.Row.{Row}
use Rattle.tree.specs.Forest.{nil, forest, end_at, children, Nested}
use Rattle.tree.specs.First.{First}
use Rattle.tree.specs.Depth.{deep, enclosing, depth, Shallow}
use Rattle.tree.proofs.Grown.{Span, forest_none, forest_some, span_children_in, span_rest, end_in_rows}

-- the first row from a up to e that more than 256 rows enclose, or that there is none
abbrev FirstDeep : List Row → ℕ → ℕ → Option ℕ → Type 0
FirstDeep rs a e None = (k : ℕ) → a ≤ k → k < e → depth rs k ≤ 256
FirstDeep rs a e (Some k) = (a ≤ k) × (k < e) × (256 < depth rs k) × ((j : ℕ) → a ≤ j → j < k → depth rs j ≤ 256)

module _ (rs : List Row) where
  one_more : (i j : ℕ) → j < end_at rs i → enclosing rs (i + 1) j ≡ enclosing rs i j + 1
  unfolding enclosing
  one_more i j h = rw (add-one i, lt-ltb j (end_at rs i) h) (omega arith)

  no_more : (i j : ℕ) → end_at rs i ≤ j → enclosing rs (suc i) j ≡ enclosing rs i j
  unfolding enclosing
  no_more i j h = rw (le-ltb j (end_at rs i) h) (omega arith)

  -- rows that end by j do not enclose it
  flat : (m a j : ℕ) → ((i : ℕ) → a ≤ i → i < a + m → end_at rs i ≤ j) → enclosing rs (a + m) j ≡ enclosing rs a j
  flat zero a j h = ap (λ i. enclosing rs i j) (omega arith)
  flat (suc m) a j h =
      let e : a + suc m ≡ suc (a + m) = omega arith in
      rw e (no_more (a + m) j (h (a + m) (omega arith) (omega arith)) ∙ flat m a j (λ i p q. h i p (omega arith)))

  joined : (a m e : ℕ) (o p : Option ℕ) → a < m → m ≤ e → depth rs a ≤ 256 → FirstDeep rs (a + 1) m o → FirstDeep rs m e p → FirstDeep rs a e (option_or o p)
  joined a m e None None l le d x y = λ k h i. first a k d h (λ q. ⊎_elim (λ w. x k q w) (λ w. y k w i) (cases_lt k m))
    where
      first : (a k : ℕ) → depth rs a ≤ 256 → a ≤ k → (a + 1 ≤ k → depth rs k ≤ 256) → depth rs k ≤ 256
      first a k d h f = ⊎_elim (λ w. f (omega arith)) (λ w. let s : a ≡ k = omega arith in subst (λ z. depth rs z ≤ 256) s d) (cases_lt a k)
  joined a m e None (Some k) l le d x y = (
    omega arith,
    y.1,
    y.2,
    (λ j h i. ⊎_elim
        (λ w. ⊎_elim (λ v. x j (omega arith) v) (λ v. y.3 j v i) (cases_lt j m))
        (λ w. let s : a ≡ j = omega arith in subst (λ z. depth rs z ≤ 256) s d)
        (cases_lt a j)),
  )
  joined a m e (Some k) p l le d x y = (
    omega arith,
    omega arith,
    x.2,
    (λ j h i. ⊎_elim (λ w. x.3 j (omega arith) i) (λ w. let s : a ≡ j = omega arith in subst (λ z. depth rs z ≤ 256) s d) (cases_lt a j)),
  )

  turn : (a m e d : ℕ) (o p : Option ℕ) → a < m → m ≤ e → depth rs a ≡ d → FirstDeep rs (a + 1) m o → FirstDeep rs m e p → FirstDeep rs a e (cond (ltb 256 d) (Some a) (option_or o p))
  turn a m e d o p l le here x y =
      ⊎_elim
      (λ w. rw (lt-ltb 256 d w) (omega arith, omega arith, omega arith, λ j h i. absurd (omega arith)))
      (λ w. rw (le-ltb 256 d w) (joined a m e o p l le (omega arith) x y))
      (cases_lt 256 d)

  module _ (law : Nested rs) where
    deep_by : (f d a e : ℕ) → e ≤ a + f → Span rs a e → ((k : ℕ) → a ≤ k → k < e → enclosing rs a k ≡ d) → FirstDeep rs a e (deep d (forest rs a e))
    deep_by zero d a e l s n = rw (forest_none rs law a e (omega arith)) (λ k h i. absurd (omega arith))
    deep_by (suc f) d a e l s n =
        ⊎_elim
        (λ h.
        let up : a < end_at rs a = law.above a (omega (arith, s.in_rows)) in
        let le : end_at rs a ≤ e = s.closed a (omega arith) h in
        let here : depth rs a ≡ d = n a (omega arith) h in
        let under =
        deep_by f (d + 1) (a + 1) (end_at rs a) (omega arith) (span_children_in rs law a (omega (arith, s.in_rows)))
        (λ k p q. one_more a k q ∙ ap (λ x. x + 1) (n k (omega arith) (omega arith))) in
        let later =
        deep_by f d (end_at rs a) e (omega arith) (span_rest rs law a e h s)
        (λ k p q.
        let b : a + (end_at rs a - a) ≡ end_at rs a = omega arith in
        let g = flat (end_at rs a - a) a k (λ i x y. ⊎_elim
        (λ w. let c : end_at rs i ≤ end_at rs a = law.within a i w (omega arith) in omega arith)
        (λ w. let c : a ≡ i = omega arith in subst (λ z. end_at rs z ≤ k) c p)
        (cases_lt a i)) in
        rw b at g ∙ n k (omega arith) q) in
        rw (forest_some rs law a e h s)
        (turn a (end_at rs a) e d (deep (d + 1) (children rs a)) (deep d (forest rs (end_at rs a) e)) up le here under later))
        (λ h. rw (forest_none rs law a e h) (λ k p q. absurd (omega arith)))
        (cases_lt a e)

    -- no row below 0 encloses any, and only row 0 those of its children that lie below 1
    pub deep_is : FirstDeep rs 0 (length rs) (deep 0 (forest rs 0 (length rs)))
    unfolding enclosing
    deep_is = deep_by (length rs) 0 0 (length rs) (omega arith) (record { in_rows = omega arith; closed = λ k a b. end_in_rows rs law k b }) (λ k h i. refl)

    deep_all : deep 1 (children rs 0) ≡ deep 0 (forest rs 0 (length rs))
    deep_all =
        ⊎_elim
        (λ h.
        let end : forest rs (end_at rs 0) (length rs) ≡ nil = forest_none rs law _ _ (omega (arith, law.whole)) in
        sym (ap (deep 0) (forest_some rs law 0 (length rs) h (record { in_rows = omega arith; closed = λ k a b. end_in_rows rs law k b })) ∙ ap (λ f. option_or (deep 1 (children rs 0)) (deep 0 f)) end ∙ or_none (deep 1 (children rs 0))))
        (λ h. ap (deep 1) (forest_none rs law _ _ (omega (arith, law.whole))) ∙ sym (ap (deep 0) (forest_none rs law _ _ h)))
        (cases_lt 0 (length rs))
      where
        or_none : (o : Option ℕ) → option_or o None ≡ o
        or_none None = refl
        or_none (Some k) = refl

    first_deep : (o : Option ℕ) → FirstDeep rs 0 (length rs) o → First (Shallow rs) (length rs) o
    first_deep None h = λ j l. h j (omega arith) l
    first_deep (Some k) h = (h.1, (λ s. omega (arith, h.2)), λ j l. h.3 j (omega arith) l)

    pub too_deep : (o : Option ℕ) → o ≡ deep 1 (children rs 0) → First (Shallow rs) (length rs) o
    too_deep o is = first_deep o (subst (FirstDeep rs 0 (length rs)) (sym (is ∙ deep_all)) deep_is)
