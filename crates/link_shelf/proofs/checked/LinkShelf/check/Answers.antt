use Rattle.link_shelf.proofs.FirstLinks.{first_link_answers}
use Rattle.link_shelf.proofs.checked.LinkShelf.check.Goals as goal

pub returns-then-is_link_shelf-clause-first : goal.returns-then-is_link_shelf-clause-first
returns-then-is_link_shelf-clause-first c = first_link_answers

pub returns-else-is_link_shelf-clause-first : goal.returns-else-is_link_shelf-clause-first
returns-else-is_link_shelf-clause-first c = first_link_answers
