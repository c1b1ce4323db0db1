use Rattle.std.proofs.Common.{drop}
use Rattle.lines.proofs.Underway.{Going}
use Rattle.people.specs.Quoted.{counted_names, name_lines}
use Rattle.people.proofs.quoted.CountedNamesDisplay.fmt.Given as goal

abbrev pub invariant-loop-row : goal.invariant-loop-row
invariant-loop-row g l =
    Going g.W.Write.write_str_gives l.fn.f (counted_names l.self.text.now l.self.rows.now) l.f (name_lines l.self.text.now (drop l.row-index l.rows))
