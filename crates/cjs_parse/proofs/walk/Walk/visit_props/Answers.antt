-- As in `visit_var_decl`, of another question: a loop has its invariant and its goals under its own names, so the two share `Onward` alone.
use Rattle.cjs_law.specs.Events.{visit_prop}
use Rattle.cjs_parse.proofs.Onward.{each_done, each_step, each_stuck}
use Rattle.cjs_parse.proofs.walk.Walk.visit_props.Goals as goal

pub loop-property-preserved : goal.loop-property-preserved
loop-property-preserved c =
    (tt, tt, each_step visit_prop c.args.self.now c.into_iter-property-iterator.result c.loop-property.self c.perform.new.self c.loop-property.property-iterator c.next.new.self c.in-Some.property c.visit_prop.result c.loop-property.invariant.2 c.in-Some.ensures.steps c.visit_prop.ensures c.in_ok-perform.ensures)

pub returns-in_err-perform : goal.returns-in_err-perform
returns-in_err-perform c =
    each_stuck visit_prop c.args.self.now c.into_iter-property-iterator.result c.args.object c.children-property-items.result c.into_iter-property-iterator.ensures.into_iter_gives c.children-property-items.ensures.tree c.children-property-items.ensures.left
    c.loop-property.self c.perform.new.self c.loop-property.property-iterator c.next.new.self c.in-Some.property c.visit_prop.result c.from_residual.result c.loop-property.invariant.2 c.in-Some.ensures.steps c.visit_prop.ensures c.from_residual.ensures.0 c.in_err-perform.ensures

pub returns : goal.returns
returns c =
    each_done visit_prop c.args.self.now c.into_iter-property-iterator.result c.args.object c.children-property-items.result c.into_iter-property-iterator.ensures.into_iter_gives c.children-property-items.ensures.tree c.children-property-items.ensures.left
    c.loop-property.self c.loop-property.property-iterator c.loop-property.invariant.2 c.in-None.ensures.steps.0
