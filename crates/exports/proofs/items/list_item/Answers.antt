use Rattle.std.proofs.Common.{◌≡◌, [], rules}
use Rattle.cjs_rules.specs.Nodes.{here}
use Rattle.exports.specs.Beyond.{item_names}
use Rattle.exports.specs.ExportedNames.{star_of}
use Rattle.exports.proofs.Progress.{stars_listed}
use Rattle.exports.proofs.items.list_item.Goals as goal

pub returns-then-is : goal.returns-then-is
returns-then-is c =
    let none : item_names (here c.args.item) ≡ [] = search rules in
    rw none (stars_listed _ _ _ (star_of (here c.args.item)) c.append_if_any.new.self (search rules))
