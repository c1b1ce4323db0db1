use Rattle.text.specs.Reading.{loose, to_come}
use Rattle.lines.specs.Texts.{hex_bytes}
use Rattle.lines.proofs.Underway.{Going}
use Rattle.lines.proofs.texts.write_hex.Given as goal

abbrev pub invariant-loop-byte : goal.invariant-loop-byte
invariant-loop-byte g l =
    Going g.W.Write.write_str_gives l.initial.f (hex_bytes (loose l.text)) l.f (hex_bytes (to_come l.byte-iterator))
