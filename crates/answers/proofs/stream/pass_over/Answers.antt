use Rattle.std.proofs.Common.{rules, ◌≡◌, ◌++◌, length, length-append, ◌∙◌, arith}
use Rattle.std.proofs.KnownBytes.{Consumes-trans}
use Rattle.answers.proofs.Streams.{Takes-after, Takes-ended}
use Rattle.tree.specs.declared.layout.TheConstants.{LONGEST_BLOCK}
use Rattle.answers.proofs.stream.pass_over.Goals as goal

pub returns-in_err-fill_whole : goal.returns-in_err-fill_whole
returns-in_err-fill_whole g c =
    let (bs, long, gave) = c.loop.invariant in
    let room : length c.loop.buffer ≡ LONGEST_BLOCK = search rules in
    Takes-ended _ _ _ bs _ _ c.in_err-fill_whole.field-0.0 c.from_residual.result gave (omega (arith, long, room, c.loop-test.true)) c.in_err-fill_whole.ensures.takes c.from_residual.ensures.1

pub loop-preserved : goal.loop-preserved
loop-preserved g c =
    let (bs, long, gave) = c.loop.invariant in
    let more = c.in_ok-fill_whole.ensures.takes in
    let room : length c.loop.buffer ≡ LONGEST_BLOCK = search rules in
    (bs ++ more.0, length-append bs more.0 ∙ omega (arith, long, more.1, room), Consumes-trans _ _ _ bs more.0 gave more.2)

pub returns : goal.returns
returns g c =
    let (bs, long, gave) = c.loop.invariant in
    Takes-after _ _ _ bs _ _ c.fill_whole-2.result gave (omega (arith, long, c.loop-test.false)) c.fill_whole-2.ensures.takes
