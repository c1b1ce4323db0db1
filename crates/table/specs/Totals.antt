-- The order of numbers one after the other is total.
use Rattle.std.specs.Cmp.Lexicographic.{nat_list_cmp_total}
use Rattle.std.proofs.lemmas.Map.Lookups.{exact_bytes}
use Rattle.table.specs.Order.{TotalOrder}
use Rattle.text.specs.Reading.{order}

pub numbers_total : TotalOrder order
numbers_total = record { laws = nat_list_cmp_total; same = exact_bytes }
