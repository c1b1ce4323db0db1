use Rattle.std.proofs.Common.{◌≡◌, true, false, eqb, sym, ap, ◌∙◌, eq-eqb, rules, tests}
use Rattle.kinds.specs.Kinds.{assign, object}
use Rattle.tree.specs.Children.{row_of}
use Rattle.tree.specs.Subject.{tree_text}
use Rattle.cjs_law.specs.Events.{visit_exports_right_expr}
use Rattle.cjs_rules.specs.Nodes.{here, section}
use Rattle.cjs_parse.proofs.Moving.{moves_as}
use Rattle.cjs_parse.proofs.Right.{call_of, handed_on}
use Rattle.cjs_parse.proofs.walk.Walk.+visit_exports_right_expr.Goals as goal

pub returns-in-Some : goal.returns-in-Some
returns-in-Some t c =
    let T = section c.args.right in
    let inner = c.in-Some.inner in
    let plain : eqb (row_of c.args.right).kind assign ≡ true = eq-eqb _ _ (sym c.in-Assign.ensures) in
    moves_as c.args.self.now c.visit_exports_right_expr.new.self c.visit_exports_right_expr.result _ _
    (ap (λ S. visit_exports_right_expr S (here inner).row (here inner).kids) (ap tree_text c.in-Some.ensures.finds.tree) ∙ sym (handed_on T (row_of c.args.right) (here c.args.right).kids (here inner) plain c.in-Some.ensures.finds.is))
    c.visit_exports_right_expr.ensures

pub returns-in_default : goal.returns-in_default
returns-in_default t c =
    let other : eqb (row_of c.args.right).kind assign ≡ false = search (rules, tests) in
    let no_object : eqb (row_of c.args.right).kind object ≡ false = search (rules, tests) in
    moves_as c.args.self.now c.perform.new.self c.perform.result _ _
    (sym (call_of (section c.args.right) (row_of c.args.right) (here c.args.right).kids c.visit_exports_call.result other no_object c.visit_exports_call.ensures))
    c.perform.ensures
