use Rattle.std.proofs.Common.{◌-◌, ◌≤◌, length, Ordering}
use Rattle.std.specs.Fn.{ComputesKey}
use Rattle.table.proofs.Places.{Narrowed}
use Rattle.table.proofs.rows.search_by.Given as goal

abbrev pub invariant-loop-low : goal.invariant-loop-low
invariant-loop-low g l =
    (l.low ≤ l.high) × (l.high ≤ length l.rows)
    × ((order : g.row.T.Denot → Ordering) → ComputesKey g.F.Fn order l.compare → Narrowed order l.rows l.low l.high)

abbrev pub decreases-loop-low : goal.decreases-loop-low
decreases-loop-low g l = l.high - l.low
