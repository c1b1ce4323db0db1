-- The measure of a recursion over the rows of a tree.
use Rattle.std.proofs.Common.{ℕ, ◌-◌, length}
use Rattle.tree.specs.declared.node.Node.{Node}
use Rattle.tree.specs.Subject.{tree_rows}

-- a bound on the rows under a node
abbrev pub ahead : Node → ℕ
ahead n = length (tree_rows n.tree.now) - n.row
