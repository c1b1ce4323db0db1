use Rattle.std.proofs.Common.{rules}
use Rattle.exports.proofs.Appending.{none_listed}
use Rattle.exports.proofs.items.export_declaration.Goals as goal

pub returns-in_default : goal.returns-in_default
returns-in_default c = none_listed _ _ (search rules)
