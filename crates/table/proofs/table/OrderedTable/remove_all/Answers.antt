use Rattle.std.proofs.Common.{map, take, is_err, refl, ◌∙◌, arith}
use Rattle.std.proofs.lemmas.List.{length-take-le}
use Rattle.table.specs.Table.{place}
use Rattle.table.proofs.Removes.{holds_kept, left_by}
use Rattle.table.proofs.Members.{removal_leaves}
use Rattle.table.proofs.table.OrderedTable.remove_all.Goals as goal

pub returns-clause-after : goal.returns-clause-after
returns-clause-after g c =
    let n = c.args.self.now.len in
    let rows = c.args.self.now.rows.now in
    let fits = c.requires.own.rest.fits in
    record { rows = left_by rows c.sift-kept.new.rows _ c.empty.new.rows n c.sift-kept.result g.R.Row.kind.zero fits (c.sift-kept.auto.rows ∙ length-take-le n rows fits) (omega arith) c.sift-kept.ensures.front c.empty.ensures; lender = refl }

pub returns-clause-held : goal.returns-clause-held
returns-clause-held g c =
    let key = g.R.Row.kind.key c.args.text.now in
    let others = take c.args.other.now.len c.args.other.now.rows.now in
    holds_kept c.requires.own (λ r. is_err (place g.R.Row.kind.order (key r) (map key others))) _ _ (returns-clause-after g c).rows

pub returns-clause-members : goal.returns-clause-members
returns-clause-members g c = removal_leaves g.R.Row.kind.order (g.R.Row.kind.key c.args.text.now) g.met.R.Row.total
