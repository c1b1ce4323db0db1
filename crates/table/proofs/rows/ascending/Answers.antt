use Rattle.std.proofs.Common.{rules}
use Rattle.std.specs.Ordering.{is_lt}
use Rattle.std.proofs.lemmas.Fn.{always_returns_same}
use Rattle.table.proofs.Rising.{answered}
use Rattle.table.proofs.rows.ascending.Goals as goal

pub returns : goal.returns
returns g c =
    let k = g.R.Row.kind in
    let key = k.key c.args.text.now in
    answered k.order key g.met.R.Row.total c.args.rows.now c.is_sorted_by.result (c.is_sorted_by.ensures.cases (λ x y. is_lt (k.order (key x) (key y))) (always_returns_same _ _ _ (λ a r q h. search rules)))
