use Rattle.text.proofs.Wellformed.{Along}
use Rattle.text.proofs.points.is_wtf8.Given as goal

abbrev pub invariant-loop-point : goal.invariant-loop-point
invariant-loop-point l = Along l.bytes l.after_high l.point-iterator.rest.now
