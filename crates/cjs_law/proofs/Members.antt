-- Members of lists.
use Rattle.std.proofs.Common.{◌⊎◌, List, [], ◌∷◌, ◌++◌, inl, inr, ⊎_elim}
use Rattle.cjs_law.specs.Lists.{In}

module _ {X : Type 0} (x : X) where
  pub in_left : (xs ys : List X) → In x xs → In x (xs ++ ys)
  in_left [] ys i = absurd i
  in_left (z ∷ xs) ys (inl e) = inl e
  in_left (z ∷ xs) ys (inr i) = inr (in_left xs ys i)

  pub in_right : (xs ys : List X) → In x ys → In x (xs ++ ys)
  in_right [] ys i = i
  in_right (z ∷ xs) ys i = inr (in_right xs ys i)

  pub in_either : (xs ys : List X) → In x (xs ++ ys) → In x xs ⊎ In x ys
  in_either [] ys i = inr i
  in_either (z ∷ xs) ys (inl e) = inl (inl e)
  in_either (z ∷ xs) ys (inr i) = ⊎_elim (λ a. inl (inr a)) (λ b. inr b) (in_either xs ys i)
