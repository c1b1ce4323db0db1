use Rattle.std.proofs.Common.{refl, arith}
use Rattle.table.proofs.Entered.{grows}
use Rattle.table.proofs.table.OrderedTable.enter.Goals as goal

pub returns : goal.returns
returns g c = record { rows = rw c.open_at.ensures (grows c.requires.1 c.args.row c.args.i c.requires.0 (omega arith)); lender = refl }
