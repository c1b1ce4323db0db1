use Rattle.shelf.specs.Pairs.{EachBeforeNext}
use Rattle.shelf.proofs.Pairs.are_in_order.Given as goal

abbrev pub invariant-loop-next : goal.invariant-loop-next
invariant-loop-next l = EachBeforeNext l.self.bytes.now l.self.start l.next
