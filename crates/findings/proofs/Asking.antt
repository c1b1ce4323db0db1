-- What a search among children comes to that asks each what it shows.
use Rattle.std.proofs.Common.{◌≡◌, ℕ, zero, suc, ◌+◌, ◌<◌, Bool, true, false, cond, List, [], ◌∷◌, slice_get, Some, None, Option, sym, refl, ap, ◌∙◌, subst, arith}
use Rattle.std.specs.Prelude.{IfSome, IsSomeAnd, IsTrue, MatchOption}
use Rattle.std.specs.Fn.{Called}
use Rattle.std.specs.Iterator.{Yields}
use Rattle.std.specs.Iterator.Runs.{AllItemsGive, CallKeepsClosure, IsFirstToGive, SomeRun, YieldsRun}
use Rattle.std.specs.Option.{unwrap_or}
use denote.Param.Members.{Mut}
use Rattle.tree.specs.declared.node.Children.{Children}
use Rattle.tree.specs.declared.node.Node.{Node as TreeNode}
use Rattle.tree.specs.Children.{Gives, left, row_of}
use Rattle.findings.specs.Script.{first_shows, shown}

passes : (m s rest : Bool) → None ≡ cond m (Some false) (cond s (Some true) None) → cond m false (cond s true rest) ≡ rest
passes true s rest e = cc
passes false true rest e = cc
passes false false rest e = refl

tells : (m s rest y : Bool) → Some y ≡ cond m (Some false) (cond s (Some true) None) → cond m false (cond s true rest) ≡ y
tells true s rest y e = cc
tells false true rest y e = cc
tells false false rest y e = cc

module _ {F : Type 0} (g : Mut F (TreeNode × Unit {0}) (Option Bool)) (f : F) (asks : (n : TreeNode) (b : Option Bool) (q : F) → Called g f (n, tt) b q → (q ≡ f) × (b ≡ shown (row_of n).kind)) where
  passed : (xs : List TreeNode) (s t : Children) → Yields Gives s xs t → ((k : ℕ) → IfSome (slice_get xs k) (λ n. Called g f (n, tt) None f)) → first_shows (left s) ≡ first_shows (left t)
  passed [] s t e h = ap (λ (u : Children). first_shows (left u)) e
  passed (x ∷ xs) s t e h = ap first_shows e.1.first ∙ passes _ _ _ (asks x None f (h 0)).1 ∙ passed xs e.0 t e.2 (λ k. h (suc k))

  told : (y : Bool) (xs : List TreeNode) (s t : Children) → Yields Gives s xs t → (i : ℕ) → IsSomeAnd (slice_get xs i) (λ n. Called g f (n, tt) (Some y) f) → ((k : ℕ) → k < i → IsSomeAnd (slice_get xs k) (λ n. Called g f (n, tt) None f)) → first_shows (left s) ≡ y
  told y [] s t e i hit h = absurd hit
  told y (x ∷ xs) s t e zero hit h = ap first_shows e.1.first ∙ tells _ _ _ y (asks x (Some y) f hit).1
  told y (x ∷ xs) s t e (suc i) hit h = ap first_shows e.1.first ∙ passes _ _ _ (asks x None f (h 0 (omega arith))).1 ∙ told y xs e.0 t e.2 i hit (λ k l. h (suc k) (omega arith))

  keeps : CallKeepsClosure g f
  keeps a r q k = (asks a.0 r q k).0

  pub first_told :
      (s : Children) (r : Option Bool) → SomeRun Gives s (λ p. MatchOption r (IsTrue p.whole × AllItemsGive p g f None) (λ y. (i : ℕ) × (i < p.len) × (p.len ≡ i + 1) × IsFirstToGive p g f (Some y) None i)) →
      unwrap_or r false ≡ first_shows (left s)
  unfolding YieldsRun
  first_told s None (p, from, (whole, all)) =
      let over = p.gave.0.2 whole in
      sym (passed p.items p.from p.gave.0.0 p.gave.0.1 (λ k. subst (λ o. IfSome o (λ n. Called g f (n, tt) None f)) (p.gave.1 k) (all keeps k)) ∙ ap first_shows over.1.0)
      ∙ ap (λ (u : Children). first_shows (left u)) from
  first_told s (Some y) (p, from, (i, below, last, first)) =
      let h = first keeps in
      sym (told y p.items p.from p.gave.0.0 p.gave.0.1 i (subst (λ o. IsSomeAnd o (λ n. Called g f (n, tt) (Some y) f)) (p.gave.1 i) h.0) (λ k l. subst (λ o. IsSomeAnd o (λ n. Called g f (n, tt) None f)) (p.gave.1 k) (h.1 k l)))
      ∙ ap (λ (u : Children). first_shows (left u)) from
