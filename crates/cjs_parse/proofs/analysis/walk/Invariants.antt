use Rattle.std.proofs.Common.{◌≡◌}
use Rattle.tree.specs.Subject.{tree_rows, tree_text}
use Rattle.cjs_parse.proofs.Walking.{Going}
use Rattle.cjs_parse.proofs.analysis.walk.Given as goal

abbrev pub invariant-loop-node : goal.invariant-loop-node
invariant-loop-node l =
    (goal.iterator-loop-node).can_next l.node-iterator
    × (goal.iterator-loop-node).is_finite l.node-iterator
    × (l.node-iterator.tree.now ≡ l.fn.tree)
    × (l.walk.text.now ≡ tree_text l.fn.tree)
    × (l.walk.tables.ghost_name ≡ l.initial.walk.tables.ghost_name)
    × Going (tree_text l.fn.tree) (tree_rows l.fn.tree) l.initial.walk.tables.now l.walk.tables.now l.node-iterator.next
