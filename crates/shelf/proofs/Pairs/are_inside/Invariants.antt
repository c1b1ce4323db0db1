use Rattle.shelf.specs.Pairs.{EachInside}
use Rattle.shelf.proofs.Pairs.are_inside.Given as goal

abbrev pub invariant-loop-number : goal.invariant-loop-number
invariant-loop-number l = EachInside l.self.bytes.now l.self.start l.number
