use Rattle.tree.specs.Children.{left}
use Rattle.tree.specs.Forest.{children}
use Rattle.tree.specs.Subject.{tree_rows}
use Rattle.findings.specs.Program.{program_tree}
use Rattle.exports.proofs.Progress.{Progress}
use Rattle.exports.proofs.items.list_items.Given as goal

abbrev pub invariant-loop-item : goal.invariant-loop-item
invariant-loop-item l =
    (goal.iterator-loop-item).can_next l.item-iterator
    × (goal.iterator-loop-item).is_finite l.item-iterator
    × Progress l.initial.names l.initial.stars l.names l.stars (children (tree_rows (program_tree l.fn.program)) 0) (left l.item-iterator)
