-- What a host means, whatever kind of host it is.
use Rattle.std.specs.Prelude.{◌≡◌, ℕ, ◌<◌, List, Option, Some}

-- how many modules there are, the block of each, and where a specifier of a module leads
pub record Meaning : Type 0 where
  pub count : ℕ
  pub block_of : ℕ → List ℕ
  pub leads : ℕ → List ℕ → Option ℕ

-- no specifier of a module leads out of the modules
abbrev pub LeadsInside : Meaning → Type 0
LeadsInside m = (from : ℕ) (specifier : List ℕ) (to : ℕ) → from < m.count → m.leads from specifier ≡ Some to → to < m.count
