use Rattle.std.proofs.Common.{◌≡◌, ◌+◌, length}
use lib.Seq.{sets}
use Rattle.std.specs.Iterator.Adapters.{zip_first, zip_second}
use Rattle.text.specs.Reading.{loose, to_come}
use Rattle.text.proofs.reading.write_loose.Given as goal

abbrev pub invariant-loop-i : goal.invariant-loop-i
invariant-loop-i l = record {
  same : sets l.initial.out l.at (loose l.text) ≡ sets l.out (zip_first l.i-iterator).start (to_come (zip_second l.i-iterator));
  end : (zip_first l.i-iterator).end ≡ l.end;
  left : (zip_first l.i-iterator).start + length (to_come (zip_second l.i-iterator)) ≡ l.end;
}
