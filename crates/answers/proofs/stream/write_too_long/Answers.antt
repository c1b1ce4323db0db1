use Rattle.fault.specs.Line.{fault_line}
use Rattle.answers.proofs.Lines.{on_ok, refused_line}
use Rattle.answers.proofs.stream.write_too_long.Goals as goal

pub returns : goal.returns
returns g c =
    on_ok c.writeln.result _ _ (λ put. λ block long kind cjs es. (fault_line c.refusal_of_too_long.result, refused_line kind cjs es block _ (c.refusal_of_too_long.ensures block long), put)) c.writeln.ensures.bytes
