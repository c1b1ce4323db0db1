use Rattle.std.proofs.Common.{◌≡◌, ◌+◌, ◌<◌, ◌^◌, length}
use Rattle.paths.specs.Backwards.{stays, to_come}
use Rattle.paths.proofs.names.Names.stay.Given as goal

abbrev pub invariant-loop-segment : goal.invariant-loop-segment
invariant-loop-segment l = record {
  stays_so : stays (to_come l.fn.self.folder) 0 (to_come l.fn.self.specifier) ≡ stays (to_come l.fn.self.folder) l.up (to_come l.segment-iterator);
  few : l.up + length (to_come l.segment-iterator) < 2 ^ 64;
}
