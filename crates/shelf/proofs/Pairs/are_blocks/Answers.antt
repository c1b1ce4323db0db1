use Rattle.shelf.proofs.Apart.{no_blocks_overlap}
use Rattle.shelf.proofs.Pairs.are_blocks.Goals as goal

pub returns-then-are_inside-clause-apart : goal.returns-then-are_inside-clause-apart
returns-then-are_inside-clause-apart c = no_blocks_overlap

pub returns-else-are_inside-clause-apart : goal.returns-else-are_inside-clause-apart
returns-else-are_inside-clause-apart c = no_blocks_overlap
