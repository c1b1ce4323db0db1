use Rattle.std.proofs.Common.{rules}
use Rattle.cjs_law.specs.Events.{visit_declarator}
use Rattle.cjs_parse.proofs.Onward.{each_done, each_step, each_stuck}
use Rattle.cjs_parse.proofs.walk.Walk.visit_var_decl.Goals as goal

-- Which node is asked is searched for, so that any way to name this declarator is proved.
pub loop-declarator-preserved : goal.loop-declarator-preserved
loop-declarator-preserved c =
    (tt, tt, each_step visit_declarator c.args.self.now c.into_iter-declarator-iterator.result c.loop-declarator.self c.perform.new.self c.loop-declarator.declarator-iterator c.next.new.self c.in-Some.declarator c.visit_declarator.result c.loop-declarator.invariant.2 c.in-Some.ensures.steps (search rules) c.in_ok-perform.ensures)

pub returns-in_err-perform : goal.returns-in_err-perform
returns-in_err-perform c =
    each_stuck visit_declarator c.args.self.now c.into_iter-declarator-iterator.result c.args.declaration c.children-declarator-items.result c.into_iter-declarator-iterator.ensures.into_iter_gives c.children-declarator-items.ensures.tree c.children-declarator-items.ensures.left
    c.loop-declarator.self c.perform.new.self c.loop-declarator.declarator-iterator c.next.new.self c.in-Some.declarator c.visit_declarator.result c.from_residual.result c.loop-declarator.invariant.2 c.in-Some.ensures.steps (search rules) c.from_residual.ensures.0 c.in_err-perform.ensures

pub returns : goal.returns
returns c =
    each_done visit_declarator c.args.self.now c.into_iter-declarator-iterator.result c.args.declaration c.children-declarator-items.result c.into_iter-declarator-iterator.ensures.into_iter_gives c.children-declarator-items.ensures.tree c.children-declarator-items.ensures.left
    c.loop-declarator.self c.loop-declarator.declarator-iterator c.loop-declarator.invariant.2 c.in-None.ensures.steps.0
