use Rattle.text.proofs.Wellformed.{AlongUtf8}
use Rattle.text.proofs.points.is_utf8.Given as goal

abbrev pub invariant-loop-point : goal.invariant-loop-point
invariant-loop-point l = AlongUtf8 l.bytes l.point-iterator.rest.now
