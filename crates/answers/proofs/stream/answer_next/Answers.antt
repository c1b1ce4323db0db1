use Rattle.std.proofs.Common.{rules, ◌≡◌, length, take, refl, arith}
use Rattle.answers.proofs.Lines.{same_lines}
use Rattle.answers.proofs.Streams.{answered_cut, answered_ended, answered_whole, next_above}
use Rattle.answers.specs.Answers.{lines_by}
use Rattle.findings.specs.Tables.{room_of}
use Rattle.tree.specs.declared.layout.TheConstants.{LONGEST_BLOCK}
use Rattle.answers.proofs.stream.answer_next.Goals as goal

pub returns-in_err-length-clause-next : goal.returns-in_err-length-clause-next
returns-in_err-length-clause-next g c =
    answered_ended (lines_by c.args.lines.now) LONGEST_BLOCK _ _ _ c.in_err-length.field-0.0 c.from_residual.result c.in_err-length.ensures.length c.from_residual.ensures.1

pub returns-in_err-fill_whole-in-Fits-clause-next :
    goal.returns-in_err-fill_whole-in-Fits-clause-next
returns-in_err-fill_whole-in-Fits-clause-next g c =
    let long : length (take c.in-Fits.count c.args.buffer.now) ≡ c.in-Fits.count = search rules in
    answered_cut (lines_by c.args.lines.now) LONGEST_BLOCK _ _ c.in-Some.is c.in-Fits.is c.in_ok-length.ensures.length _ _ _ c.in_err-fill_whole-in-Fits.field-0.0 c.from_residual-in_err-fill_whole-in-Fits.result long c.in_err-fill_whole-in-Fits.ensures.takes c.from_residual-in_err-fill_whole-in-Fits.ensures.1

pub returns-in_err-write_line-in-Fits-clause-kept :
    goal.returns-in_err-write_line-in-Fits-clause-kept
returns-in_err-write_line-in-Fits-clause-kept g c =
    same_lines _ c.args.lines.now c.write_line.new.self c.write_line.ensures.tables

pub returns-in_err-pass_over-in-TooLong-clause-next :
    goal.returns-in_err-pass_over-in-TooLong-clause-next
returns-in_err-pass_over-in-TooLong-clause-next g c =
    answered_cut (lines_by c.args.lines.now) LONGEST_BLOCK _ _ c.in-Some.is c.in-TooLong.is c.in_ok-length.ensures.length _ _ c.in-TooLong.count c.in_err-pass_over-in-TooLong.field-0.0 c.from_residual-in_err-pass_over-in-TooLong.result refl c.in_err-pass_over-in-TooLong.ensures c.from_residual-in_err-pass_over-in-TooLong.ensures.1

pub returns-in_ok-write_line-in-Fits-clause-next :
    goal.returns-in_ok-write_line-in-Fits-clause-next
returns-in_ok-write_line-in-Fits-clause-next g c =
    let long : length c.fill_whole.new.buffer ≡ c.in-Fits.count = search rules in
    answered_whole (lines_by c.args.lines.now) LONGEST_BLOCK _ _ c.in-Some.is c.in-Fits.is c.in_ok-length.ensures.length _ _ _ c.fill_whole.new.buffer long c.in_ok-fill_whole-in-Fits.ensures.given c.in_ok-write_line-in-Fits.ensures.line

pub returns-in_ok-write_line-in-Fits-clause-kept :
    goal.returns-in_ok-write_line-in-Fits-clause-kept
returns-in_ok-write_line-in-Fits-clause-kept g c =
    same_lines _ c.args.lines.now c.write_line.new.self c.write_line.ensures.tables

pub returns-in_ok-write_too_long-in-TooLong-clause-next :
    goal.returns-in_ok-write_too_long-in-TooLong-clause-next
returns-in_ok-write_too_long-in-TooLong-clause-next g c =
    let (bs, count, more) = c.in_ok-pass_over-in-TooLong.ensures in
    let above = next_above (lines_by c.args.lines.now) LONGEST_BLOCK _ _ c.in-Some.is c.in-TooLong.is c.in_ok-length.ensures.length c.in-TooLong.count refl in
    answered_whole (lines_by c.args.lines.now) LONGEST_BLOCK _ _ c.in-Some.is c.in-TooLong.is c.in_ok-length.ensures.length _ _ _ bs count more
    (c.in_ok-write_too_long-in-TooLong.ensures bs (omega (arith, count, above)) c.args.lines.now.kind (room_of c.args.lines.now.cjs) (room_of c.args.lines.now.es))
