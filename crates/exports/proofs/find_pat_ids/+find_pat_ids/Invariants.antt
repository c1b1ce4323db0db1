use Rattle.std.proofs.Common.{◌≡◌}
use Rattle.cjs_rules.specs.Nodes.{here}
use Rattle.cjs_rules.proofs.Ahead.{ahead}
use Rattle.tree.specs.Children.{left}
use Rattle.exports.specs.BoundNames.{bound_names, of_elements, of_properties}
use Rattle.exports.proofs.Onward.{Onward}
use Rattle.exports.proofs.find_pat_ids.+find_pat_ids.Given as goal

abbrev pub decreases-find_pat_ids : goal.decreases-find_pat_ids
decreases-find_pat_ids l = ahead l.pattern

abbrev pub invariant-loop-element : goal.invariant-loop-element
invariant-loop-element l =
    (goal.iterator-loop-element).can_next l.element-iterator
    × (goal.iterator-loop-element).is_finite l.element-iterator
    × (l.element-iterator.tree.now ≡ l.fn.pattern.tree.now)
    × (l.element-iterator.rows.parent ≡ l.fn.pattern.row)
    × Onward (bound_names (here l.fn.pattern)) (of_elements (left l.element-iterator)) l.initial.names l.names

abbrev pub invariant-loop-property : goal.invariant-loop-property
invariant-loop-property l =
    (goal.iterator-loop-property).can_next l.property-iterator
    × (goal.iterator-loop-property).is_finite l.property-iterator
    × (l.property-iterator.tree.now ≡ l.fn.pattern.tree.now)
    × (l.property-iterator.rows.parent ≡ l.fn.pattern.row)
    × Onward (bound_names (here l.fn.pattern)) (of_properties (left l.property-iterator)) l.initial.names l.names
