use Rattle.std.proofs.Common.{map, rules, ap, ◌∙◌}
use Rattle.std.proofs.lemmas.Fn.{always_returns_same}
use Rattle.table.specs.Kind.{held}
use Rattle.table.specs.Table.{place}
use Rattle.table.proofs.Standing.{place_is}
use Rattle.table.proofs.Places.{found}
use Rattle.table.proofs.Rising.{rows_rise}
use Rattle.table.proofs.table.OrderedTable.find.Goals as goal

pub returns-clause-place : goal.returns-clause-place
returns-clause-place g c =
    let k = g.R.Row.kind in
    let key = k.key c.args.text.now in
    let needle = k.key c.args.from.now c.args.needle.now in
    found k.order key needle g.met.R.Row.total c.held.result.now (rw c.held.ensures (rows_rise k.order key (held c.args.self.now) c.requires.ordered.up)) _ c.search_by.ensures.bound (c.search_by.ensures.position (λ x. k.order (key x) needle) (always_returns_same _ _ _ (λ a r q h. search rules)))
    ∙ ap (λ xs. place k.order needle (map key xs)) c.held.ensures

pub returns-clause-stands : goal.returns-clause-stands
returns-clause-stands g c = place_is g.R.Row.kind.order g.met.R.Row.total
