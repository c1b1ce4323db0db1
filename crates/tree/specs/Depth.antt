-- How many rows enclose a row.
use Rattle.std.specs.Prelude.{ℕ, zero, suc, ◌+◌, ◌≤◌, cond, List, Some, None, Option, nat_lt}
use Rattle.std.specs.Option.{option_or}
use Rattle.tree.specs.declared.row.Row.{Row}
use Rattle.tree.specs.Forest.{Forest, nil, node, end_at}

-- how many of the rows below i enclose row j
unfoldable pub enclosing : List Row → ℕ → ℕ → ℕ
enclosing rs zero j = 0
enclosing rs (suc i) j = cond (nat_lt j (end_at rs i)) 1 0 + enclosing rs i j

-- how many rows enclose row j
abbrev pub depth : List Row → ℕ → ℕ
depth rs j = enclosing rs j j

-- at most 256 rows enclose row j
abbrev pub Shallow : List Row → ℕ → Type 0
Shallow rs j = depth rs j ≤ 256

-- the first row of a tree that more than 256 rows enclose, where d rows enclose those at its top
abbrev pub deep : ℕ → Forest → Option ℕ
deep d nil = None
deep d (node j r children siblings) = cond (nat_lt 256 d) (Some j) (option_or (deep (d + 1) children) (deep d siblings))
