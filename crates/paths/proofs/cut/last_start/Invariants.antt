use Rattle.std.proofs.Common.{◌≡◌, ℕ, ◌<◌, ◌≤◌, length, get_or}
use Rattle.paths.proofs.cut.last_start.Given as goal

abbrev pub invariant-loop-start : goal.invariant-loop-start
invariant-loop-start l = record { within : l.start ≤ length l.text; no_slash : (k : ℕ) → l.start ≤ k → k < length l.text → get_or l.text k 0 ≡ 47 → ⊥ }

abbrev pub decreases-loop-start : goal.decreases-loop-start
decreases-loop-start l = l.start
