-- Rows as a tree: which rows a row encloses, and which of them are its children.
use Rattle.std.specs.Prelude.{◌≡◌, ℕ, zero, suc, ◌+◌, ◌-◌, ◌<◌, ◌≤◌, cond, ◌&&◌, List, length, Some, None, Option, nat_lt, slice_index_or}
use Rattle.tree.specs.declared.row.Row.{Row}

-- a row of zeros stands past the rows
abbrev pub blank : Row
blank = record { kind = 0; mark = 0; offset = 0; length = 0; end = 0 }

abbrev pub row_at : List Row → ℕ → Row
row_at rs j = slice_index_or rs j blank

abbrev pub end_at : List Row → ℕ → ℕ
end_at rs j = (row_at rs j).end

-- row i encloses row j
abbrev pub Encloses : List Row → ℕ → ℕ → Type 0
Encloses rs i j = (i < j) × (j < end_at rs i)

-- the end of row j is above its number and at most the end of every row that encloses it, and row 0 ends at the count
pub record LawfulEnd (rs : List Row) (j : ℕ) : Type 0 where
  pub above : j < end_at rs j
  pub within : (i : ℕ) → Encloses rs i j → end_at rs j ≤ end_at rs i
  pub whole : j ≡ 0 → end_at rs j ≡ length rs

-- the same of every row, part by part
pub record Nested (rs : List Row) : Type 0 where
  pub above : (j : ℕ) → j < length rs → j < end_at rs j
  pub within : (i j : ℕ) → i < j → j < end_at rs i → end_at rs j ≤ end_at rs i
  pub whole : end_at rs 0 ≡ length rs

-- a row with its number, its children and its later siblings, each a tree in turn
pub data Forest : Type 0 where
  nil : Forest
  node : (j : ℕ) → (row : Row) → (children : Forest) → (siblings : Forest) → Forest

-- k at n, where n is computed first: without it a tree's numbers are computed over and over
abbrev pub forced : {A : Type 0} → ℕ → (ℕ → A) → A
forced zero k = k zero
forced (suc n) k = k (suc n)

-- the rows from j up to e, of at most so many levels and siblings: row j, what it encloses, and on from its end
unfoldable pub grown : ℕ → List Row → ℕ → ℕ → Forest
grown zero rs j e = nil
grown (suc f) rs j e =
    cond (nat_lt j e) (forced (j + 1) (λ i. forced (end_at rs j) (λ k. node j (row_at rs j) (grown f rs i k) (grown f rs k e)))) nil

unfoldable pub forest : List Row → ℕ → ℕ → Forest
forest rs j e = grown (e - j) rs j e

-- the children of row j, and what they enclose
abbrev pub children : List Row → ℕ → Forest
children rs j = forest rs (j + 1) (end_at rs j)

-- the rows under row j after row c and what row c encloses: the later siblings, where row c is a child of row j
abbrev pub siblings : List Row → ℕ → ℕ → Forest
siblings rs c j = cond (nat_lt j c && nat_lt c (end_at rs c)) (forest rs (end_at rs c) (end_at rs j)) nil

-- row c and its later siblings among the children of row j, or no row
abbrev pub since : List Row → ℕ → Option ℕ → Forest
since rs j None = nil
since rs j (Some c) = node c (row_at rs c) (children rs c) (siblings rs c j)

-- a row that stands under row j
abbrev pub Under : List Row → ℕ → Option ℕ → Type 0
Under rs j None = Unit {0}
Under rs j (Some c) = (j < c) × (c < length rs)
