use Rattle.block_lines.specs.Lines.{answers_found, findings_found}
use Rattle.answers.proofs.Lines.{answers_written, findings_written}
use Rattle.answers.proofs.answer.write_found.Goals as goal

pub returns-in-Findings : goal.returns-in-Findings
returns-in-Findings g c =
    findings_written findings_found c.findings_line.result c.writeln.result c.args.kind c.args.found c.args.cjs.now c.args.es.now _ _ c.writeln.ensures.bytes c.in-Findings.is c.findings_line.ensures.line

pub returns-in-Answers : goal.returns-in-Answers
returns-in-Answers g c =
    answers_written answers_found c.answers_line.result c.writeln-in-Answers.result c.args.kind c.args.found c.args.cjs.now c.args.es.now _ _ c.writeln-in-Answers.ensures.bytes c.in-Answers.is c.answers_line.ensures.line
