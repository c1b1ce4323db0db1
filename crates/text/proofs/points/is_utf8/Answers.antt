use Rattle.std.proofs.Common.{rules}
use Rattle.text.proofs.Wellformed.{utf8_ascii, along_utf8, surrogate_came, broken_utf8}
use Rattle.text.proofs.points.is_utf8.Goals as goal

pub returns-then-is_ascii : goal.returns-then-is_ascii
returns-then-is_ascii c = utf8_ascii _ c.if-is_ascii.ensures.cases

pub loop-point-preserved : goal.loop-point-preserved
loop-point-preserved c = along_utf8 _ _ _ _ c.loop-point.invariant c.in-Some.ensures.steps _ c.in-Ok.is (search rules)

pub returns-in_default : goal.returns-in_default
returns-in_default c = surrogate_came _ _ _ _ c.loop-point.invariant c.in-Some.ensures.steps _ c.in-Ok.is (search rules)

pub returns-in_default-2 : goal.returns-in_default-2
returns-in_default-2 c = broken_utf8 _ _ _ _ c.loop-point.invariant c.in-Some.ensures.steps _ c.in_default.is
