use Rattle.cjs_rules.proofs.Ahead.{ahead}
use Rattle.cjs_rules.proofs.require.+get_call_expr_require_value.Given as goal

abbrev pub decreases-get_call_expr_require_value : goal.decreases-get_call_expr_require_value
decreases-get_call_expr_require_value l = ahead l.call
