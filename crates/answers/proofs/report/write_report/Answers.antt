use Rattle.std.proofs.Common.{◌∙◌, Err}
use Rattle.answers.proofs.Lines.{found_in, on_ok}
use Rattle.answers.proofs.Reported.{reported}
use Rattle.answers.specs.Memory.{size_room}
use Rattle.answers.specs.Report.{refused, report_text}
use Rattle.people.specs.Listed.{listed_text}
use Rattle.answers.proofs.report.write_report.Goals as goal

pub returns-in_ok-es_memory-in-Ok : goal.returns-in_ok-es_memory-in-Ok
returns-in_ok-es_memory-in-Ok g c =
    let block = c.args.block.now in
    let s = c.tables-cjs_tables.result in
    let t = c.tables-es_tables.result in
    let found = c.analyse_tree-found in
    let (of, zero) = c.in-Ok.ensures.tree in
    let a = found_in block c.in-Ok.tree s t found.result found.new.cjs found.new.es found.ensures.block of zero in
    let cjs = listed_text c.listed-cjs.result.rules c.listed-cjs.result.names in
    let es = listed_text c.listed-es.result.rules c.listed-es.result.names in
    let told = reported block s t found.new.cjs found.new.es found.result (size_room c.args.sizes) a
    (c.tables-cjs_tables.ensures ∙ c.in_ok-cjs_memory-in-Ok.ensures) (c.tables-es_tables.ensures ∙ c.in_ok-es_memory-in-Ok.ensures) cjs es c.listed-cjs.ensures.lists c.listed-es.ensures.lists in
    on_ok c.writeln.result _ _ (λ put. (_, told, put)) c.writeln.ensures.bytes

pub returns-in-Err : goal.returns-in-Err
returns-in-Err g c =
    on_ok c.writeln-in-Err.result _ _ (λ put. (report_text (Err c.in-Err.refusal), refused c.in-Err.refusal c.in-Err.ensures.verdict, put)) c.writeln-in-Err.ensures.bytes
