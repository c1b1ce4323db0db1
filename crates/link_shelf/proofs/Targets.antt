-- The target of a link that a search came to.
use Rattle.std.proofs.Common.{◌≡◌, ℕ, Option, Some, None, MatchOption, IsSomeAnd, ap}
use Rattle.std.specs.Option.{option_map}
use Rattle.link_shelf.specs.declared.link.Link.{Link}

module _ (P : Link → ℕ → Type 0) (is : (l : Link) (t : ℕ) → P l t → t ≡ l.target) where
  target_of_some : (l : Link) (p : Option ℕ) → IsSomeAnd p (P l) → p ≡ Some l.target
  target_of_some l None h = absurd h
  target_of_some l (Some t) h = ap Some (is l t h)

  pub target_of : (found first : Option Link) (p : Option ℕ) → MatchOption found (p ≡ None) (λ l. IsSomeAnd p (P l)) → option_map (λ l. l) found ≡ first → p ≡ option_map (λ l. l.target) first
  target_of None first p h e = let w : None ≡ first = e in rw (← w) h
  target_of (Some l) first p h e = let w : Some l ≡ first = e in rw (← w) (target_of_some l p h)
