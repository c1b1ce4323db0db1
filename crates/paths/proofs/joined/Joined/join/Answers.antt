use Rattle.std.proofs.Common.{◌≡◌, ◌<◌, true, Some, length, reverse, arith, ap, inl, inr, sym, ◌∙◌}
use Rattle.std.specs.Option.{option_map}
use Rattle.paths.specs.Behind.{behind}
use Rattle.paths.specs.Backwards.{lasting, stays}
use Rattle.paths.specs.Join.{is_relative}
use Rattle.paths.specs.Joined.{joined_names}
use Rattle.paths.specs.Segments.{segments}
use Rattle.paths.proofs.Split.{few_segments}
use Rattle.paths.proofs.Walk.{joined, not_joined}
use Rattle.paths.proofs.joined.Joined.join.Goals as goal

pub invariant_of-names : goal.invariant_of-names
invariant_of-names c = record { few = omega (arith, few_segments c.args.path.now, ap length c.cut_last.ensures) }

pub returns-then-not-stay-clause-joined : goal.returns-then-not-stay-clause-joined
returns-then-not-stay-clause-joined c =
    let base = behind c.cut_last.result.1 in
    let relative : is_relative c.args.specifier.now ≡ true = cc in
    not_joined c.args.path.now c.args.specifier.now c.cut_last.result.0.now base c.cut_last.ensures relative
    (inl (ap (stays base 0) (sym c.of.ensures) ∙ sym c.stay.ensures ∙ c.if-not-stay.true))

pub returns-in_err-next-clause-joined : goal.returns-in_err-next-clause-joined
returns-in_err-next-clause-joined c =
    let base = behind c.cut_last.result.1 in
    let relative : is_relative c.args.specifier.now ≡ true = cc in
    ap (option_map joined_names) c.from_residual.ensures
    ∙ not_joined c.args.path.now c.args.specifier.now c.cut_last.result.0.now base c.cut_last.ensures relative
    (inr (ap (lasting base 0) (sym c.of.ensures) ∙ c.in_err-next.ensures.steps.0))

pub returns-clause-joined : goal.returns-clause-joined
returns-clause-joined c =
    let base = behind c.cut_last.result.1 in
    let relative : is_relative c.args.specifier.now ≡ true = cc in
    let last = ap length (ap (lasting base 0) (sym c.of.ensures) ∙ c.in_ok-next.ensures.steps) in
    let some : 0 < length (lasting base 0 (reverse (segments c.args.specifier.now))) = omega arith in
    ap (λ l. Some (lasting base 0 l)) c.of.ensures
    ∙ joined c.args.path.now c.args.specifier.now c.cut_last.result.0.now base c.cut_last.ensures relative (ap (stays base 0) (sym c.of.ensures) ∙ sym c.stay.ensures ∙ c.if-not-stay.false) some
