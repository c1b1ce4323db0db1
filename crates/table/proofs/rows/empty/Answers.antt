use Rattle.std.proofs.Common.{replicate, rules, ap, ◌∙◌}
use Rattle.table.proofs.Zeros.{all_made}
use Rattle.table.proofs.rows.empty.Goals as goal

pub returns : goal.returns
returns g c = all_made _ g.R.Row.kind.zero c.fill_with.new.self _ _ (λ p x q h. search rules) c.fill_with.ensures.ran.1 ∙ ap (λ n. replicate n g.R.Row.kind.zero) c.fill_with.ensures.len
