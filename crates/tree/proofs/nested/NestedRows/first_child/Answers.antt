use Rattle.std.proofs.Common.{rules}
use Rattle.tree.specs.Block.{rows_of}
use Rattle.tree.proofs.Grown.{children_some, forest_none}
use Rattle.tree.proofs.nested.NestedRows.first_child.Goals as goal

pub returns-clause-is : goal.returns-clause-is
returns-clause-is c =
    let rs = rows_of c.args.self.now.rows in
    let some = children_some rs c.args.self.now.nested c.args.j in
    let none = forest_none rs c.args.self.now.nested in
    search (rules, some, none)
