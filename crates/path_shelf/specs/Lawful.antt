-- Which bytes are a path shelf.
use Rattle.std.specs.Prelude.{◌≡◌, ℕ, ◌+◌, ◌*◌, ◌<◌, ◌≤◌, true, List, length}
use Rattle.paths.specs.Segments.{is_path}
use Rattle.shelf.specs.Pairs.{EachInside, LawfulBlocks}
use Rattle.path_shelf.specs.Paths.{module_count, path_of, paths_start}

-- the count is neither too small nor too large, and there is room for the pairs
pub record LawfulCount (bytes : List ℕ) : Type 0 where
  pub some_module : 0 < module_count bytes
  pub few_modules : module_count bytes ≤ 64
  pub long_enough : paths_start bytes + 8 * module_count bytes ≤ length bytes

-- each module has a path
abbrev pub LawfulPaths : List ℕ → Type 0
LawfulPaths bytes = (m : ℕ) → m < module_count bytes → is_path (path_of bytes m) ≡ true

pub record Lawful (bytes : List ℕ) : Type 0 where
  pub counts : LawfulCount bytes
  pub blocks : LawfulBlocks bytes 4 (module_count bytes)
  pub inside : EachInside bytes (paths_start bytes) (module_count bytes)
  pub paths : LawfulPaths bytes
