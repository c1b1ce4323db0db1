-- Where a walk over nodes goes on: under the node that it comes from.
use Rattle.std.specs.Prelude.{◌≡◌, Some, None, Option}
use Rattle.tree.specs.declared.node.Node.{Node}
use Rattle.tree.specs.Forest.{Under}
use Rattle.tree.specs.Subject.{tree_rows}

-- a node that was found stands under this one, in the same tree
abbrev pub Beneath : Node → Option Node → Type 0
Beneath n None = Unit {0}
Beneath n (Some m) = (m.tree.now ≡ n.tree.now) × Under (tree_rows n.tree.now) n.row (Some m.row)
