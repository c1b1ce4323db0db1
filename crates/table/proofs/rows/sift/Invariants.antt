use Rattle.std.proofs.Common.{map, take, is_err}
use Rattle.std.proofs.lemmas.List.Filters.{FiltersInPlace}
use Rattle.table.specs.Table.{place}
use Rattle.table.proofs.rows.sift.Given as goal

abbrev pub invariant-loop-i : goal.invariant-loop-i
invariant-loop-i g l =
    let key = g.R.Row.kind.key l.text in
    FiltersInPlace (λ r. is_err (place g.R.Row.kind.order (key r) (map key (take l.other.len l.other.rows.now)))) l.initial.rows l.rows l.kept l.i
