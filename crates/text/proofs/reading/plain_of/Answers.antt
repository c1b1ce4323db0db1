use Rattle.std.proofs.Common.{rules, ◌≡◌}
use borrow.Author.Tests.{tests}
use Rattle.text.specs.Reading.{marked}
use Rattle.text.proofs.Bytewise.{marked_from_any}
use Rattle.text.proofs.reading.plain_of.Goals as goal

pub returns-clause-reading : goal.returns-clause-reading
returns-clause-reading c =
    let found : c.any.result ≡ marked c.args.text.now = marked_from_any _ _ c.any.result c.args.text.now c.any.ensures.ran c.windows.ensures.rest c.windows.ensures.size (λ w b q k. search (rules, tests)) in
    search (rules, found)
