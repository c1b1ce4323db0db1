use Rattle.std.proofs.Common.{◌≡◌, ◌+◌, ◌<◌, ◌^◌, [], drop, length}
use Rattle.paths.specs.Backwards.{lasting, names_to_come, to_come}
use Rattle.paths.proofs.names.NamesIterator.next.Given as goal

-- the names to come are those that last of the segments left
abbrev pub invariant-loop-segment : goal.invariant-loop-segment
invariant-loop-segment l = record {
  names : names_to_come l.initial.self ≡ lasting (to_come l.self.folder) l.up (to_come l.self.specifier);
  few : l.up + length (to_come l.self.specifier) < 2 ^ 64;
}

abbrev pub decreases-loop-segment : goal.decreases-loop-segment
decreases-loop-segment l = length (to_come l.self.specifier)

abbrev pub invariant-loop-up : goal.invariant-loop-up
invariant-loop-up l = record {
  names : names_to_come l.fn.self ≡ drop l.up (to_come l.self.folder);
  none : to_come l.self.specifier ≡ [];
}

abbrev pub decreases-loop-up : goal.decreases-loop-up
decreases-loop-up l = l.up
