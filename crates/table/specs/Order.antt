-- Total orders of keys.
use Rattle.std.specs.Prelude.{◌≡◌}
use Rattle.std.specs.Cmp.{IsTotalOrder}
use Rattle.std.specs.declared.cmp.Ordering.TheVariants.{Equal}
use Rattle.std.specs.declared.cmp.Ordering.{Ordering}

-- an order of keys is total, and only equal keys tie
pub record TotalOrder {K : Type 0} (c : K → K → Ordering) : Type 0 where
  pub laws : IsTotalOrder c
  pub same : (x y : K) → c x y ≡ Equal → x ≡ y
