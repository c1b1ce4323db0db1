-- A block has one verdict, and it is without a fault exactly where the block is lawful.
use Rattle.std.proofs.Common.{◌≡◌, ℕ, List, Some, None, Option, refl, sym, ap, ⊎_elim, arith}
use Rattle.std.proofs.lemmas.Bool.{cases_lt}
use Rattle.tree.specs.First.{First}
use Rattle.fault.specs.declared.Fault.{Fault}
use Rattle.tree.specs.Verdict.{Verdict, accepted, bad_layout, bad_end, bad_depth, bad_shape, bad_text, Lawful, tree_fault, Ends, Depths, Shapes, Texts, OneVerdict}

first_none : (R : ℕ → Type 0) (n k : ℕ) → First R n None → First R n (Some k) → ⊥
first_none R n k all f = f.1 (all k f.0)

first_same : (R : ℕ → Type 0) (n k l : ℕ) → First R n (Some k) → First R n (Some l) → k ≡ l
first_same R n k l a b =
    ⊎_elim (λ h. absurd (a.1 (b.2 k h))) (λ h. ⊎_elim (λ g. absurd (b.1 (a.2 l g))) (λ g. omega arith) (cases_lt l k)) (cases_lt k l)

module _ (m : ℕ) (block : List ℕ) where
  refuted : (f : Fault) → Lawful block → Verdict m block (Some f) → ⊥
  refuted _ l (bad_layout unlawful) = unlawful l.layout
  refuted _ l (bad_end k _ first) = first.1 (l.ends k first.0)
  refuted _ l (bad_depth k _ _ first) = first.1 (l.depths k first.0)
  refuted _ l (bad_shape k _ _ _ first) = first.1 (l.shapes k first.0)
  refuted _ l (bad_text k _ _ _ _ first) = first.1 (l.texts k first.0)

  accepted_only : (a : Option Fault) → Lawful block → Verdict m block a → None ≡ a
  accepted_only None l v = refl
  accepted_only (Some f) l v = absurd (refuted f l v)

  one : (a b : Option Fault) → Verdict m block a → Verdict m block b → a ≡ b
  one _ _ (accepted l) w = accepted_only _ l w
  one _ _ v (accepted l) = sym (accepted_only _ l v)
  one _ _ (bad_layout unlawful) (bad_layout unlawful') = refl
  one _ _ (bad_layout unlawful) (bad_end k' y' f') = absurd (unlawful y')
  one _ _ (bad_layout unlawful) (bad_depth k' y' e' f') = absurd (unlawful y')
  one _ _ (bad_layout unlawful) (bad_shape k' y' e' d' f') = absurd (unlawful y')
  one _ _ (bad_layout unlawful) (bad_text k' y' e' d' h' f') = absurd (unlawful y')
  one _ _ (bad_end k y f) (bad_layout unlawful') = absurd (unlawful' y)
  one _ _ (bad_end k y f) (bad_end k' y' f') = ap (λ k. Some (tree_fault 2 m k)) (first_same (Ends block) _ k k' f f')
  one _ _ (bad_end k y f) (bad_depth k' y' e' f') = absurd (first_none (Ends block) _ k e' f)
  one _ _ (bad_end k y f) (bad_shape k' y' e' d' f') = absurd (first_none (Ends block) _ k e' f)
  one _ _ (bad_end k y f) (bad_text k' y' e' d' h' f') = absurd (first_none (Ends block) _ k e' f)
  one _ _ (bad_depth k y e f) (bad_layout unlawful') = absurd (unlawful' y)
  one _ _ (bad_depth k y e f) (bad_end k' y' f') = absurd (first_none (Ends block) _ k' e f')
  one _ _ (bad_depth k y e f) (bad_depth k' y' e' f') = ap (λ k. Some (tree_fault 3 m k)) (first_same (Depths block) _ k k' f f')
  one _ _ (bad_depth k y e f) (bad_shape k' y' e' d' f') = absurd (first_none (Depths block) _ k d' f)
  one _ _ (bad_depth k y e f) (bad_text k' y' e' d' h' f') = absurd (first_none (Depths block) _ k d' f)
  one _ _ (bad_shape k y e d f) (bad_layout unlawful') = absurd (unlawful' y)
  one _ _ (bad_shape k y e d f) (bad_end k' y' f') = absurd (first_none (Ends block) _ k' e f')
  one _ _ (bad_shape k y e d f) (bad_depth k' y' e' f') = absurd (first_none (Depths block) _ k' d f')
  one _ _ (bad_shape k y e d f) (bad_shape k' y' e' d' f') = ap (λ k. Some (tree_fault 4 m k)) (first_same (Shapes block) _ k k' f f')
  one _ _ (bad_shape k y e d f) (bad_text k' y' e' d' h' f') = absurd (first_none (Shapes block) _ k h' f)
  one _ _ (bad_text k y e d h f) (bad_layout unlawful') = absurd (unlawful' y)
  one _ _ (bad_text k y e d h f) (bad_end k' y' f') = absurd (first_none (Ends block) _ k' e f')
  one _ _ (bad_text k y e d h f) (bad_depth k' y' e' f') = absurd (first_none (Depths block) _ k' d f')
  one _ _ (bad_text k y e d h f) (bad_shape k' y' e' d' f') = absurd (first_none (Shapes block) _ k' h f')
  one _ _ (bad_text k y e d h f) (bad_text k' y' e' d' h' f') = ap (λ k. Some (tree_fault 5 m k)) (first_same (Texts block) _ k k' f f')

pub one_verdict : OneVerdict
one_verdict m block a b v w = one m block a b v w
