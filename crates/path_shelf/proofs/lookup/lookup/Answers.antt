use Rattle.std.proofs.Common.{ap, ◌∙◌}
use Rattle.paths.specs.Join.{join}
use Rattle.path_shelf.specs.Means.{names_lead}
use Rattle.path_shelf.proofs.lookup.lookup.Goals as goal

pub returns : goal.returns
returns c =
    c.found.ensures ∙ ap (names_lead c.args.bytes.now) c.in_ok-join.ensures.joined ∙ ap (λ p. names_lead c.args.bytes.now (join p c.args.specifier.now)) c.path.ensures
