use Rattle.std.proofs.Common.{refl}
use Rattle.table.proofs.Entered.{at_new_place, in_its_place}
use Rattle.table.proofs.Members.{put_replaces}
use Rattle.table.proofs.table.OrderedTable.put.Goals as goal

pub returns-in-Ok : goal.returns-in-Ok
returns-in-Ok g c =
    let stored = in_its_place (λ r x. r) c.requires g.met.R.Row.total (λ r x e. e) c.args.row c.in-Ok.i c.in-Ok.ensures.place c.in-Ok.ensures.within in
    record { after = record { rows = stored.0; lender = refl }; held = stored.1; members = put_replaces g.R.Row.kind.order (g.R.Row.kind.key c.args.text.now) g.met.R.Row.total }

pub returns-in-Err : goal.returns-in-Err
returns-in-Err g c =
    let grown = at_new_place (λ r x. r) c.requires g.met.R.Row.total (λ r x e. e) c.args.row c.in-Err.i c.in-Err.ensures.place c.enter.result c.enter.new.self.len c.enter.new.self.rows.now c.enter.ensures.rows in
    record { after = record { rows = grown.0; lender = c.enter.ensures.lender }; held = grown.1; members = put_replaces g.R.Row.kind.order (g.R.Row.kind.key c.args.text.now) g.met.R.Row.total }
