use Rattle.answers.proofs.Small.{small_written}
use Rattle.answers.proofs.answer.BlockLines.write_line.Goals as goal

pub returns-in-Some-clause-line : goal.returns-in-Some-clause-line
returns-in-Some-clause-line g c =
    let (of, zero) = c.in-Ok.ensures.tree in
    small_written c.args.block.now c.args.self.now c.try_small.new.self c.in-Some.found (c.in-Some.ensures c.args.block.now of zero) c.write_found-in-Some.result _ _ c.write_found-in-Some.ensures
