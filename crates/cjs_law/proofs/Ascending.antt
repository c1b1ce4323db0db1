-- Rows in order, row by row.
use Rattle.std.proofs.Common.{◌≡◌, ℕ, suc, ◌<◌, List, [], ◌∷◌, map, length, get_or, Less, arith}
use Rattle.table.specs.Table.{InOrder}
use Rattle.text.specs.Reading.{order}

module _ {X : Type 0} (key : X → List ℕ) where
  -- every key is greater than k
  abbrev pub Above : List ℕ → List X → Type 0
  Above k [] = Unit {0}
  Above k (y ∷ ys) = (order k (key y) ≡ Less) × Above k ys

  -- each key is less than all that follow
  abbrev pub Ascends : List X → Type 0
  Ascends [] = Unit {0}
  Ascends (x ∷ xs) = Above (key x) xs × Ascends xs

  above_from : (k : List ℕ) (xs : List X) → ((j : ℕ) (d : List ℕ) → j < length (map key xs) → order k (get_or (map key xs) j d) ≡ Less) → Above k xs
  above_from k [] h = tt
  above_from k (x ∷ xs) h = (h 0 [] (omega arith), above_from k xs (λ j d l. h (suc j) d (omega arith)))

  pub ascends_from : (xs : List X) → InOrder order key xs → Ascends xs
  ascends_from [] h = tt
  ascends_from (x ∷ xs) h = (
    above_from (key x) xs (λ j d l. h.up 0 (suc j) d (omega arith) (omega arith)),
    ascends_from xs (record { up = λ i j d a l. h.up (suc i) (suc j) d (omega arith) (omega arith) }),
  )
