-- The children of a row by their numbers, one after the other.
use Rattle.std.specs.Prelude.{◌≡◌, ℕ, ◌-◌, ◌<◌, length, Some, None, Option, MatchOption}
use Rattle.tree.specs.declared.child_rows.ChildRows.{ChildRows}
use Rattle.tree.specs.Block.{rows_of}
use Rattle.tree.specs.Forest.{Forest, nil, node, children, row_at, since}

-- the children that are still to come, with what stands under each
abbrev pub rest : ChildRows → Forest
rest it = since (rows_of it.rows.rows) it.parent it.next

-- how many rows lie from this one on
abbrev pub from : ℕ → Option ℕ → ℕ
from n None = 0
from n (Some c) = n - c

-- no more rows are still to come
abbrev pub still : ChildRows → ℕ
still it = from (length (rows_of it.rows.rows)) it.next

-- the number comes that is the first of those still to come, and stands below the parent; the others are left
pub record ComesRow (before : ChildRows) (c : ℕ) (after : ChildRows) : Type 0 where
  pub first : rest before ≡ node c (row_at (rows_of before.rows.rows) c) (children (rows_of before.rows.rows) c) (rest after)
  pub rows : after.rows ≡ before.rows
  pub parent : after.parent ≡ before.parent
  pub below : before.parent < c
  pub inside : c < length (rows_of before.rows.rows)

-- one step: the next child, or none where none is left; the rows stay
abbrev pub GivesRow : ChildRows → Option ℕ → ChildRows → Type 0
GivesRow before result after = MatchOption result ((rest before ≡ nil) × (rest after ≡ nil) × (after.rows ≡ before.rows)) (λ c. ComesRow before c after)
