use Rattle.cjs_rules.specs.Nodes.{here}
use Rattle.tree.specs.Children.{left}
use Rattle.exports.specs.BoundNames.{of_declarators}
use Rattle.exports.proofs.Onward.{Onward}
use Rattle.exports.proofs.find_pat_ids.find_declarator_ids.Given as goal

abbrev pub invariant-loop-declarator : goal.invariant-loop-declarator
invariant-loop-declarator l =
    (goal.iterator-loop-declarator).can_next l.declarator-iterator
    × (goal.iterator-loop-declarator).is_finite l.declarator-iterator
    × Onward (of_declarators (here l.fn.declaration).kids) (of_declarators (left l.declarator-iterator)) l.initial.names l.names
