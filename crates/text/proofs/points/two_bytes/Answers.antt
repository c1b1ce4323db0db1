use Rattle.std.proofs.Common.{rules}
use Rattle.text.proofs.Coding.{two_decides}
use Rattle.text.proofs.points.two_bytes.Goals as goal

pub returns-then-matches : goal.returns-then-matches
returns-then-matches c = two_decides _ _ _ (search rules)

pub returns-else-matches : goal.returns-else-matches
returns-else-matches c = two_decides _ _ _ (search rules)
