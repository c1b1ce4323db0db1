use Rattle.std.proofs.Common.{ap, ◌∙◌}
use Rattle.cjs_law.specs.Events.{once, visit_call_expr}
use Rattle.cjs_rules.specs.Nodes.{here, section}
use Rattle.cjs_parse.proofs.Moving.{moves_as}
use Rattle.cjs_parse.proofs.walk.Walk.visit_call_expr.Goals as goal

pub returns : goal.returns
returns c =
    moves_as c.args.self.now c.perform.new.self c.perform.result _ _
    (ap once (c.visit_call_expr-event.ensures ∙ ap (λ b. visit_call_expr (section c.args.call) b (here c.args.call).kids) c.bindings.ensures))
    c.perform.ensures
