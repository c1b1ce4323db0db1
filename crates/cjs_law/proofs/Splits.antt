-- Lists that are split in two ways.
use Rattle.std.proofs.Common.{◌≡◌, ◌⊎◌, List, [], ◌∷◌, ◌++◌, sym, refl, ap, subst, inl, inr, ⊎_elim}

module _ {X : Type 0} where
  abbrev pub front : X → List X → X
  front d [] = d
  front d (x ∷ xs) = x

  abbrev pub back : List X → List X
  back [] = []
  back (x ∷ xs) = xs

  abbrev Filled : List X → Type 0
  Filled [] = ⊥
  Filled (x ∷ xs) = Unit {0}

  pub nothing_left : (b a : List X) → [] ≡ b ++ a → b ≡ []
  nothing_left [] a e = refl
  nothing_left (y ∷ b) a e = absurd (subst Filled (sym e) tt)

  -- a front of xs with one more is a front of xs, or all of it
  pub fronts : (xs : List X) (d : X) (b a : List X) → xs ++ d ∷ [] ≡ b ++ a → ((c : List X) × (xs ≡ b ++ c)) ⊎ (b ≡ xs ++ d ∷ [])
  fronts xs d [] a e = inl (xs, refl)
  fronts [] d (y ∷ b) a e = inr (λ i. ap (front d) (sym e) i ∷ nothing_left b a (ap back e) i)
  fronts (x ∷ xs) d (y ∷ b) a e = ⊎_elim
      (λ h. inl (h.0, λ i. ap (front x) e i ∷ h.1 i))
      (λ h. inr (λ i. ap (front x) (sym e) i ∷ h i))
      (fronts xs d b a (ap back e))

  -- of two places in a list, one is before the other or they are one
  pub places : (b : List X) (d : X) (a b' : List X) (d' : X) (a' : List X) → b ++ d ∷ a ≡ b' ++ d' ∷ a' → (d ≡ d') ⊎ (((c : List X) × (b' ≡ (b ++ d ∷ []) ++ c)) ⊎ ((c : List X) × (b ≡ (b' ++ d' ∷ []) ++ c)))
  places [] d a [] d' a' e = inl (ap (front d) e)
  places [] d a (y ∷ b') d' a' e = inr (inl (b', λ i. ap (front d) (sym e) i ∷ b'))
  places (x ∷ b) d a [] d' a' e = inr (inr (b, λ i. ap (front x) e i ∷ b))
  places (x ∷ b) d a (y ∷ b') d' a' e = ⊎_elim
      (λ h. inl h)
      (λ h. inr (⊎_elim (λ g. inl (g.0, λ i. ap (front x) (sym e) i ∷ g.1 i)) (λ g. inr (g.0, λ i. ap (front x) e i ∷ g.1 i)) h))
      (places b d a b' d' a' (ap back e))
