-- The specifier that the arguments of a copying helper's call require, argument by argument and by their number.
use Rattle.std.proofs.Common.{◌≡◌, Bool, true, false, not, ◌&&◌, refl, ap}
use Rattle.kinds.specs.Kinds.{spread}
use Rattle.tree.specs.Forest.{nil, node}
use Rattle.cjs_rules.specs.Chain.{◌>>◌}
use Rattle.cjs_rules.specs.Nodes.{any_of_kind, has_count}
use Rattle.cjs_rules.specs.Rules.{RequiredArgumentIsTheOnlyOneOrBeforeExports, is_exports_expr, required_or_bound}

and_turned : (a b : Bool) → (a && b) ≡ (b && a)
and_turned true true = refl
and_turned true false = refl
and_turned false true = refl
and_turned false false = refl

pub require_arg_by_first : RequiredArgumentIsTheOnlyOneOrBeforeExports
require_arg_by_first T bound nil = refl
require_arg_by_first T bound (node j r ks nil) = refl
require_arg_by_first T bound (node j r ks (node k s ls rest)) =
    ap (λ b. not (any_of_kind spread (node j r ks (node k s ls rest))) >> (b >> required_or_bound T bound (record { row = r; kids = ks })))
    (and_turned (is_exports_expr T (record { row = s; kids = ls })) (has_count 0 rest))
