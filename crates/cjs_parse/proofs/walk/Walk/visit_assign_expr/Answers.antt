use Rattle.std.proofs.Common.{◌≡◌, sym, ap, ◌∙◌}
use Rattle.tree.specs.Forest.{children}
use Rattle.tree.specs.Subject.{tree_rows}
use Rattle.cjs_law.specs.Events.{once, visit_assign_expr, visit_member_target}
use Rattle.cjs_rules.specs.Nodes.{section}
use Rattle.cjs_parse.specs.Bound.{of_two}
use Rattle.cjs_parse.specs.Moving.{bound_by}
use Rattle.cjs_parse.proofs.Moving.{moves_as}
use Rattle.cjs_parse.proofs.Firsts.{few_assign, to_member}
use Rattle.cjs_parse.proofs.walk.Walk.visit_assign_expr.Goals as goal
use Rattle.cjs_parse.proofs.walk.Walk.visit_assign_expr.Goals.{in_default-via-in-Some+else-is_module_exports_or_exports, in_default-via-in_default}

pub returns-in_default : goal.returns-in_default
returns-in_default c =
    let a = c.args.assign in
    let T = section a in
    let b = bound_by c.args.self.now in
    let kids = children (tree_rows a.tree.now) a.row in
    let event : c.visit_member_assign-event.result ≡ of_two 0 (visit_member_target T b) kids = c.visit_member_assign-event.ensures ∙ ap (λ b. of_two 0 (visit_member_target T b) kids) c.bindings.ensures in
    let is : once (of_two 0 (visit_member_target T b) kids) ≡ visit_assign_expr T b kids = elim c.in_default.branch [
      | in_default-via-in-Some+else-is_module_exports_or_exports w ↦ to_member a w.in-Some.target w.in-Some.right b w.in-Some.ensures (sym w.if-is_module_exports_or_exports.ensures)
      | in_default-via-in_default w ↦ few_assign T b kids w.in_default.ensures
    ] in
    moves_as c.args.self.now c.perform.new.self c.perform.result _ _ (ap once event ∙ is) c.perform.ensures
