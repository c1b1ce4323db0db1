-- The order of lists of bytes: it tells different lists apart, and it is total.
use Rattle.std.proofs.lemmas.Map.Lookups.{exact_bytes}
use Rattle.text.specs.Reading.{loose}
use Rattle.text.specs.Laws.{by_loose, LooseOrderIsTotal}

pub loose_order_is_total : LooseOrderIsTotal
loose_order_is_total = record { total = by_loose; same = λ a b. exact_bytes (loose a) (loose b) }
