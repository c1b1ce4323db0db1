use Rattle.std.proofs.Common.{drop}
use Rattle.lines.specs.Listed.{after_commas, listed}
use Rattle.lines.proofs.Underway.{Going}
use Rattle.lines.proofs.listed.ListedDisplay.fmt.Given as goal

abbrev pub invariant-loop-row : goal.invariant-loop-row
invariant-loop-row g l =
    Going g.W.Write.write_str_gives l.fn.f (listed (g.M.Manner.text l.self.manner) l.self.rows.now) l.f (after_commas (g.M.Manner.text l.self.manner) (drop l.row-index l.more))
