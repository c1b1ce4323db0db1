use Rattle.cjs_rules.proofs.Ahead.{ahead}
use Rattle.cjs_rules.proofs.harmless.+harmless_values.Given as goal

abbrev pub decreases-is_non_side_effect_expr : goal.decreases-is_non_side_effect_expr
decreases-is_non_side_effect_expr l = ahead l.node

abbrev pub decreases-is_non_side_effect_member_prop : goal.decreases-is_non_side_effect_member_prop
decreases-is_non_side_effect_member_prop l = ahead l.property
