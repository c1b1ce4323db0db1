use Rattle.cjs_rules.specs.Nodes.{here}
use Rattle.tree.specs.Children.{left}
use Rattle.exports.specs.Beyond.{specifier_names}
use Rattle.exports.specs.ExportedNames.{each}
use Rattle.exports.proofs.Onward.{Onward}
use Rattle.exports.proofs.items.export_specifiers.Given as goal

abbrev pub invariant-loop-specifier : goal.invariant-loop-specifier
invariant-loop-specifier l =
    (goal.iterator-loop-specifier).can_next l.specifier-iterator
    × (goal.iterator-loop-specifier).is_finite l.specifier-iterator
    × Onward (each specifier_names (here l.fn.item).kids) (each specifier_names (left l.specifier-iterator)) l.initial.names l.names
