use Rattle.std.proofs.Common.{rules}
use Rattle.text.proofs.Coding.{four_decides}
use Rattle.text.proofs.points.four_bytes.Goals as goal

pub returns-then-goes_on-2 : goal.returns-then-goes_on-2
returns-then-goes_on-2 c = four_decides _ _ _ _ _ (search rules)

pub returns-else-goes_on-2 : goal.returns-else-goes_on-2
returns-else-goes_on-2 c = four_decides _ _ _ _ _ (search rules)
