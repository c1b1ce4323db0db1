-- Where a node has no first two children.
use Rattle.std.proofs.Common.{◌≡◌, ℕ, ◌<◌, ◌≤◌, ◌⊎◌, inl, inr, refl, arith}
use Rattle.tree.specs.declared.row.Row.{Row}
use Rattle.tree.specs.Children.{width}
use Rattle.tree.specs.Forest.{Forest, nil, node}

-- a forest of fewer than two rows has none, or one; its width stands first so that tactics find the forest
pub at_most_one : (f : Forest) → width f < 2 → (width f ≤ 1) × ((f ≡ nil) ⊎ ((j : ℕ) × (r : Row) × (ks : Forest) × (f ≡ node j r ks nil)))
at_most_one nil h = (grind arith, inl refl)
at_most_one (node j r ks nil) h = (grind arith, inr (j, r, ks, refl))
at_most_one (node j r ks (node i s ls rest)) h = grind arith
