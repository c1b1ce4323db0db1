use Rattle.std.proofs.Common.{◌≡◌, ◌↔◌, reverse}
use Rattle.paths.specs.Backwards.{names_to_come, to_come}
use Rattle.paths.specs.Joined.{joined_names}
use Rattle.paths.specs.Segments.{segments}
use Rattle.paths.proofs.joined.Joined.is_all_of.Given as goal

-- all are the same exactly when those that are left are
abbrev pub invariant-loop-segment : goal.invariant-loop-segment
invariant-loop-segment l = (reverse (segments l.fn.text) ≡ joined_names l.fn.self) ↔ (to_come l.segment-iterator ≡ names_to_come l.names)
