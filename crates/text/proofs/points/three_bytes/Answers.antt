use Rattle.std.proofs.Common.{rules}
use Rattle.text.proofs.Coding.{three_decides}
use Rattle.text.proofs.points.three_bytes.Goals as goal

pub returns-then-goes_on : goal.returns-then-goes_on
returns-then-goes_on c = three_decides _ _ _ _ (search rules)

pub returns-else-goes_on : goal.returns-else-goes_on
returns-else-goes_on c = three_decides _ _ _ _ (search rules)
