use Rattle.path_shelf.proofs.LowestModule.{lowest_answers}
use Rattle.path_shelf.proofs.checked.PathShelf.check.Goals as goal

pub returns-then-is_path_shelf-clause-lowest : goal.returns-then-is_path_shelf-clause-lowest
returns-then-is_path_shelf-clause-lowest c = lowest_answers

pub returns-else-is_path_shelf-clause-lowest : goal.returns-else-is_path_shelf-clause-lowest
returns-else-is_path_shelf-clause-lowest c = lowest_answers
