-- The first row that offends against a rule.
use Rattle.std.specs.Prelude.{ℕ, ◌<◌, ◌≤◌, List, Some, None, Option}
use Rattle.tree.specs.declared.row.Row.{Row}
use Rattle.tree.specs.Forest.{end_at}

-- the lowest number below n at which the rule does not hold, or none where it holds of all
abbrev pub First : (ℕ → Type 0) → ℕ → Option ℕ → Type 0
First Rule n None = (j : ℕ) → j < n → Rule j
First Rule n (Some k) = (k < n) × (Rule k → ⊥) × ((j : ℕ) → j < k → Rule j)

-- each row between i and k lies in one that begins after i and ends by i's end
abbrev pub Covered : List Row → ℕ → ℕ → Type 0
Covered rs i k = (c : ℕ) → i < c → c < k → (m : ℕ) × (i < m) × (m ≤ c) × (c < end_at rs m) × (end_at rs m ≤ end_at rs i)
