use Rattle.cjs_law.specs.Events.{visit_declarator}
use Rattle.cjs_parse.proofs.Onward.{Keeps}
use Rattle.cjs_parse.proofs.walk.Walk.visit_var_decl.Given as goal

abbrev pub invariant-loop-declarator : goal.invariant-loop-declarator
invariant-loop-declarator l =
    (goal.iterator-loop-declarator).can_next l.declarator-iterator
    × (goal.iterator-loop-declarator).is_finite l.declarator-iterator
    × Keeps visit_declarator l.initial.self l.self l.initial.declarator-iterator l.declarator-iterator
