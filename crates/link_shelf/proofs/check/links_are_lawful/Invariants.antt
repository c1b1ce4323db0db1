use Rattle.std.proofs.Common.{ℕ, ◌<◌}
use Rattle.link_shelf.specs.Lawful.{LawfulLink}
use Rattle.link_shelf.specs.Links.{link}
use Rattle.link_shelf.proofs.check.links_are_lawful.Given as goal

abbrev pub invariant-loop-number : goal.invariant-loop-number
invariant-loop-number l = (i : ℕ) → i < l.number → LawfulLink l.bytes (link l.bytes i)
