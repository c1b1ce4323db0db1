use Rattle.kinds.proofs.Tried.{at_its_number}
use Rattle.kinds.proofs.kind.KindTryFromU32.try_from.Goals as goal

-- src/kind.rt:126:5
pub returns-then-at-lt50 : goal.returns-then-at-lt50
returns-then-at-lt50 c = at_its_number c.args.number c.if-at-lt50.true
