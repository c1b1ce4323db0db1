use Rattle.std.proofs.Common.{arith}
use Rattle.std.proofs.lemmas.Bool.Decides.{nat_tests}
use Rattle.text.proofs.Wellformed.{wtf8_ascii, along, paired, broken}
use Rattle.text.proofs.points.is_wtf8.Goals as goal

pub returns-then-is_ascii : goal.returns-then-is_ascii
returns-then-is_ascii c = wtf8_ascii _ c.if-is_ascii.ensures.cases

pub returns-in-Ok-56320-to-57343 : goal.returns-in-Ok-56320-to-57343
returns-in-Ok-56320-to-57343 c = paired _ _ _ _ _ c.loop-point.invariant c.in-Some.ensures.steps _ c.in-Ok-56320-to-57343.is (grind (arith, nat_tests))

pub returns-in-Err : goal.returns-in-Err
returns-in-Err c = broken _ _ _ _ _ c.loop-point.invariant c.in-Some.ensures.steps _ c.in-Err.is

pub loop-point-preserved-in-Ok-55296-to-56319 : goal.loop-point-preserved-in-Ok-55296-to-56319
loop-point-preserved-in-Ok-55296-to-56319 c =
    along _ _ _ _ _ c.loop-point.invariant c.in-Some.ensures.steps _ _ c.in-Ok-55296-to-56319.is (grind (arith, nat_tests)) (grind (arith, nat_tests))

pub loop-point-preserved-in-Ok : goal.loop-point-preserved-in-Ok
loop-point-preserved-in-Ok c = along _ _ _ _ _ c.loop-point.invariant c.in-Some.ensures.steps _ _ c.in-Ok.is (grind (arith, nat_tests)) (grind (arith, nat_tests))

pub loop-point-preserved-in-Ok-2 : goal.loop-point-preserved-in-Ok-2
loop-point-preserved-in-Ok-2 c = along _ _ _ _ _ c.loop-point.invariant c.in-Some.ensures.steps _ _ c.in-Ok.is (grind (arith, nat_tests)) (grind (arith, nat_tests))

pub loop-point-preserved : goal.loop-point-preserved
loop-point-preserved c = along _ _ _ _ _ c.loop-point.invariant c.in-Some.ensures.steps _ _ c.in-Ok.is (grind (arith, nat_tests)) (grind (arith, nat_tests))
