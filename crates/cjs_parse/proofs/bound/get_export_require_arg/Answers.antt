use Rattle.std.proofs.Common.{◌≡◌, true, false, sym, ap, ◌∙◌}
use Rattle.kinds.specs.Kinds.{spread}
use Rattle.tree.specs.Children.{left}
use Rattle.tree.specs.Subject.{tree_text}
use Rattle.cjs_rules.specs.Nodes.{any_of_kind, here}
use Rattle.cjs_rules.specs.Rules.{none_or_exports, required_or_bound}
use Rattle.cjs_parse.specs.Bound.{bound_in}
use Rattle.cjs_parse.proofs.bound.get_export_require_arg.Goals as goal

pub returns-then-is_for_exports : goal.returns-then-is_for_exports
returns-then-is_for_exports c =
    let T = tree_text c.args.args.tree.now in
    let bound = bound_in c.args.bindings in
    let a = c.in_ok-first.first in
    let steps = c.in_ok-first.ensures.steps in
    let others = c.next.new.self in
    let no_spread : any_of_kind spread (left c.args.args) ≡ false = sym c.has_spread_argument.ensures ∙ c.if-has_spread_argument.false in
    let alone : none_or_exports T (left others) ≡ true = ap (λ S. none_or_exports S (left others)) (sym (ap tree_text steps.same)) ∙ sym c.is_for_exports.ensures ∙ c.if-is_for_exports.true in
    rw (no_spread, steps.first, alone) (c.get_required_or_bound.ensures ∙ ap (λ S. required_or_bound S bound (here a)) (ap tree_text steps.tree))
