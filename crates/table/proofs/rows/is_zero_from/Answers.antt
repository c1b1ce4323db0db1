use Rattle.std.proofs.Common.{◌≡◌, drop, rules}
use Rattle.std.proofs.lemmas.Iterator.{YieldsList-from_slice, cases_from_all}
use Rattle.std.proofs.lemmas.Iterator.Adapters.{YieldsList-from_skip}
use Rattle.std.proofs.lemmas.List.{length-drop}
use Rattle.table.proofs.Zeros.{zeros_by_all}
use Rattle.table.proofs.rows.is_zero_from.Goals as goal

pub returns : goal.returns
returns g c =
    let rows = c.args.rows.now in
    let z = g.R.Row.kind.zero in
    zeros_by_all z (drop c.args.from rows) c.all.result (cases_from_all _ _ c.all.result (λ x. x ≡ z) (λ x. x ≡ z → ⊥) c.all.ensures.ran (YieldsList-from_skip c.args.from (YieldsList-from_slice rows cc) c.skip.ensures.count) (λ x q k. search rules) (λ x q k. search rules)) _ (length-drop c.args.from rows)
