-- Lists of the first rows of their keys, in order.
use Rattle.std.specs.Prelude.{◌≡◌, ℕ, ◌⊎◌, ◌↔◌, List, [], ◌∷◌, ◌≢◌}
use Rattle.table.specs.Table.{InOrder, insert_row}
use Rattle.text.specs.Reading.{order}

-- x is one of these, row by row as the laws go; the library's `Contains` tells it by an index
abbrev pub In : {X : Type 0} → X → List X → Type 0
In x [] = ⊥
In x (y ∷ ys) = (x ≡ y) ⊎ In x ys

-- x stands among these, and none before it has its key
abbrev pub First : {X : Type 0} → (X → List ℕ) → X → List X → Type 0
First key x [] = ⊥
First key x (y ∷ ys) = (x ≡ y) ⊎ ((key y ≢ key x) × First key x ys)

-- one of these has the key k
abbrev pub Has : {X : Type 0} → (X → List ℕ) → List ℕ → List X → Type 0
Has {X} key k xs = (x : X) × In x xs × (key x ≡ k)

-- the keys of xs ascend strictly, and it holds exactly the first of those added of each key that is none of the barred
pub record Lists {X : Type 0} (key : X → List ℕ) (added : List X) (barred : List (List ℕ)) (xs : List X) : Type 0 where
  pub ascends : InOrder order key xs
  pub exact : (x : X) → In x xs ↔ (First key x added × (In (key x) barred → ⊥))

-- one row after the other goes to its place, where none of its key stands
abbrev pub insert : {X : Type 0} → (X → List ℕ) → X → List X → List X
insert key r xs = insert_row order key r xs

abbrev pub insert_all : {X : Type 0} → (X → List ℕ) → List X → List X → List X
insert_all key [] xs = xs
insert_all key (r ∷ rs) xs = insert_all key rs (insert key r xs)
