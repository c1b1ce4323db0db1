use Rattle.std.proofs.Common.{rules}
use Rattle.cjs_rules.proofs.Listed.{last_child_found}
use Rattle.cjs_rules.proofs.returned.last_child.Goals as goal

pub returns : goal.returns
returns c = search (rules, last_child_found)
