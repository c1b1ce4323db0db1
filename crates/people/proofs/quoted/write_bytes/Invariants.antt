use Rattle.lines.proofs.Underway.{Going}
use Rattle.people.specs.Quoted.{inside_quotes}
use Rattle.text.specs.Reading.{loose, to_come}
use Rattle.people.proofs.quoted.write_bytes.Given as goal

abbrev pub invariant-loop-byte : goal.invariant-loop-byte
invariant-loop-byte g l =
    Going g.W.Write.write_str_gives l.initial.f (inside_quotes (loose l.text)) l.f (inside_quotes (to_come l.byte-iterator))
