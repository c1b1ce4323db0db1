use Rattle.std.proofs.Common.{refl}
use Rattle.std.proofs.lemmas.List.{set-get_or}
use Rattle.table.proofs.Entered.{at_new_place, in_its_place}
use Rattle.table.proofs.Members.{insert_adds}
use Rattle.table.proofs.table.OrderedTable.insert.Goals as goal

pub returns-in-Ok-clause-after : goal.returns-in-Ok-clause-after
returns-in-Ok-clause-after g c =
    let i = c.in-Ok.field-0 in
    let stored = in_its_place (λ r x. x) c.requires g.met.R.Row.total (λ r x e. refl) c.args.row i c.in-Ok.ensures.place c.in-Ok.ensures.within in
    let h = stored.0 in
    record { rows = rw (set-get_or c.args.self.now.rows.now i c.args.row) at h; lender = refl }

pub returns-in-Err : goal.returns-in-Err
returns-in-Err g c =
    let grown = at_new_place (λ r x. x) c.requires g.met.R.Row.total (λ r x e. refl) c.args.row c.in-Err.i c.in-Err.ensures.place c.enter.result c.enter.new.self.len c.enter.new.self.rows.now c.enter.ensures.rows in
    record { after = record { rows = grown.0; lender = c.enter.ensures.lender }; held = grown.1; members = insert_adds g.R.Row.kind.order (g.R.Row.kind.key c.args.text.now) g.met.R.Row.total }

pub returns-in-Ok-clause-members : goal.returns-in-Ok-clause-members
returns-in-Ok-clause-members g c = insert_adds g.R.Row.kind.order (g.R.Row.kind.key c.args.text.now) g.met.R.Row.total
