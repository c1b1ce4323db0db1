use Rattle.std.proofs.Common.{Some, None, sym, ◌∙◌}
use Rattle.cjs_parse.proofs.Firsts.{spread_out}
use Rattle.cjs_parse.proofs.visit.visit_prop.Goals as goal

pub returns-in_err-value : goal.returns-in_err-value
returns-in_err-value c =
    c.from_residual-in_err-value.ensures
    ∙ spread_out c.args.property c.in_ok-spread.spread c.children.result c.next.new.self c.children.ensures.tree c.children.ensures.left c.in_ok-spread.ensures.steps (sym c.is.ensures ∙ c.if-is.true) None c.in_err-value.ensures

pub returns-then-is : goal.returns-then-is
returns-then-is c =
    spread_out c.args.property c.in_ok-spread.spread c.children.result c.next.new.self c.children.ensures.tree c.children.ensures.left c.in_ok-spread.ensures.steps (sym c.is.ensures ∙ c.if-is.true) (Some c.in_ok-value.value) c.in_ok-value.ensures
