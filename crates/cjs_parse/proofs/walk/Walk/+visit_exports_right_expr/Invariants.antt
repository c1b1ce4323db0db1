use Rattle.cjs_rules.proofs.Ahead.{ahead}
use Rattle.cjs_parse.proofs.walk.Walk.+visit_exports_right_expr.Given as goal

abbrev pub decreases-visit_exports_right_expr : goal.decreases-visit_exports_right_expr
decreases-visit_exports_right_expr l = ahead l.right
