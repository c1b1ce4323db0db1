use Rattle.std.proofs.Common.{Ok, Err}
use Rattle.answers.proofs.Lines.{lines_of_same, on_ok, same_after, same_itself}
use Rattle.answers.proofs.Streams.{answered_by, so_far_cut, so_far_end, so_far_more, so_far_none}
use Rattle.answers.specs.Answers.{lines_by}
use Rattle.answers.proofs.stream.answer_stream_in.Goals as goal

pub loop-init : goal.loop-init
loop-init g c = (so_far_none (lines_by c.args.lines.now) _ _, same_itself c.args.lines.now)

pub loop-preserved : goal.loop-preserved
loop-preserved g c =
    let (so, same) = c.loop.invariant in
    let next = answered_by (lines_by c.loop.lines) (lines_by c.args.lines.now) (λ block line. lines_of_same c.args.lines.now c.loop.lines block line same)
    (g.R.Read.remaining c.loop.input) (g.R.Read.remaining c.answer_next.new.input) (g.W.Write.contents c.loop.output) (g.W.Write.contents c.answer_next.new.output) (Ok c.in-Ok-true.field-0) c.in-Ok-true.ensures.next in
    (so_far_more (lines_by c.args.lines.now) (g.R.Read.remaining c.args.input.now) (g.R.Read.remaining c.loop.input) (g.R.Read.remaining c.answer_next.new.input) (g.W.Write.contents c.args.output.now) (g.W.Write.contents c.loop.output) (g.W.Write.contents c.answer_next.new.output) _ so c.in-Ok-true.field-0 c.in-Ok-true.field-0-test next, same_after c.args.lines.now c.loop.lines c.answer_next.new.lines same c.answer_next.ensures.kept)

pub returns-in-Ok-false-clause-all : goal.returns-in-Ok-false-clause-all
returns-in-Ok-false-clause-all g c =
    let (so, same) = c.loop.invariant in
    let next = answered_by (lines_by c.loop.lines) (lines_by c.args.lines.now) (λ block line. lines_of_same c.args.lines.now c.loop.lines block line same)
    (g.R.Read.remaining c.loop.input) (g.R.Read.remaining c.answer_next.new.input) (g.W.Write.contents c.loop.output) (g.W.Write.contents c.answer_next.new.output) (Ok c.in-Ok-false.field-0) c.in-Ok-false.ensures.next in
    so_far_end (lines_by c.args.lines.now) (g.R.Read.remaining c.args.input.now) (g.R.Read.remaining c.loop.input) (g.R.Read.remaining c.answer_next.new.input) (g.W.Write.contents c.args.output.now) (g.W.Write.contents c.loop.output) (g.W.Write.contents c.answer_next.new.output) _ so c.in-Ok-false.field-0 c.in-Ok-false.field-0-test next

pub returns-in-Err-CutShort-clause-all : goal.returns-in-Err-CutShort-clause-all
returns-in-Err-CutShort-clause-all g c =
    let (so, same) = c.loop.invariant in
    let next = answered_by (lines_by c.loop.lines) (lines_by c.args.lines.now) (λ block line. lines_of_same c.args.lines.now c.loop.lines block line same)
    (g.R.Read.remaining c.loop.input) (g.R.Read.remaining c.answer_next.new.input) (g.W.Write.contents c.loop.output) (g.W.Write.contents c.answer_next.new.output) (Err c.in-Err-CutShort.field-0) c.in-Err-CutShort.ensures.next in
    on_ok c.writeln.result _ _ (λ last. so_far_cut (lines_by c.args.lines.now) _ _ _ _ _ _ _ so _ _ c.in-Err-CutShort.cut c.in-Err-CutShort.field-0-is next last) c.writeln.ensures.bytes

pub returns-in-Ok-false-clause-kept : goal.returns-in-Ok-false-clause-kept
returns-in-Ok-false-clause-kept g c =
    let (so, same) = c.loop.invariant in
    same_after c.args.lines.now c.loop.lines c.answer_next.new.lines same c.answer_next.ensures.kept

pub returns-in-Err-CutShort-clause-kept : goal.returns-in-Err-CutShort-clause-kept
returns-in-Err-CutShort-clause-kept g c =
    let (so, same) = c.loop.invariant in
    same_after c.args.lines.now c.loop.lines c.answer_next.new.lines same c.answer_next.ensures.kept

pub returns-in-Err-Io-clause-kept : goal.returns-in-Err-Io-clause-kept
returns-in-Err-Io-clause-kept g c =
    let (so, same) = c.loop.invariant in
    same_after c.args.lines.now c.loop.lines c.answer_next.new.lines same c.answer_next.ensures.kept
