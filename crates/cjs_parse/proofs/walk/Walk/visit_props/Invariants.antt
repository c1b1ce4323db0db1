use Rattle.cjs_law.specs.Events.{visit_prop}
use Rattle.cjs_parse.proofs.Onward.{Keeps}
use Rattle.cjs_parse.proofs.walk.Walk.visit_props.Given as goal

abbrev pub invariant-loop-property : goal.invariant-loop-property
invariant-loop-property l =
    (goal.iterator-loop-property).can_next l.property-iterator
    × (goal.iterator-loop-property).is_finite l.property-iterator
    × Keeps visit_prop l.initial.self l.self l.initial.property-iterator l.property-iterator
