use Rattle.std.proofs.Common.{◌-◌, ◌<◌}
use Rattle.tree.specs.Block.{rows_of}
use Rattle.tree.specs.First.{Covered}
use Rattle.tree.proofs.row.Rows.first_unlawful_child.Given as goal

abbrev pub invariant-loop-c : goal.invariant-loop-c
invariant-loop-c l = (l.j < l.c) × Covered (rows_of l.self) l.j l.c

abbrev pub decreases-loop-c : goal.decreases-loop-c
decreases-loop-c l = l.end - l.c
