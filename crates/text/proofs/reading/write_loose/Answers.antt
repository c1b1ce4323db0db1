use Rattle.std.proofs.Common.{rules, ◌≡◌, ◌+◌, ◌≤◌, [], ◌++◌, length, take, drop, sym, ap, ◌∙◌, ⊎_elim, arith}
use Rattle.std.proofs.lemmas.List.{nil_from_length}
use lib.Seq.{sets, sets-eq}
use Rattle.std.proofs.lemmas.Bool.{cond-true, le-leb}
use Rattle.std.specs.Iterator.Adapters.{zip_first, zip_second}
use Rattle.text.specs.Reading.{loose, to_come}
use Rattle.text.proofs.ByPoints.{length_loose}
use Rattle.text.proofs.reading.write_loose.Goals as goal

pub returns-clause-contents : goal.returns-clause-contents
returns-clause-contents c =
    let ends : c.in_ok-end.end ≡ c.args.at + length c.args.text.now = search rules in
    let fits : c.in_ok-end.end ≤ length c.args.out.now = search rules in
    let text = c.args.text.now in
    let out = c.args.out.now in
    let at = c.args.at in
    let it = c.loop-i.i-iterator in
    let n = length_loose text in
    let done : to_come (zip_second it) ≡ [] = ⊎_elim
    (λ l. nil_from_length _ (let gap = l.1.1.0 in omega (arith, c.loop-i.invariant.left, c.loop-i.invariant.end)))
    (λ r. r.1.0)
    c.in-None.ensures.steps in
    sym (ap (sets c.loop-i.out (zip_first it).start) done)
    ∙ sym c.loop-i.invariant.same
    ∙ sets-eq (loose text) out at (omega arith)
    ∙ ap (λ k. take at out ++ loose text ++ drop (at + k) out) n
    ∙ sym (cond-true _ _ _ (le-leb (at + length text) (length out) (omega arith)))
