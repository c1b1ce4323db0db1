-- Which module has a path, by the numbers of the modules.
use Rattle.std.specs.Prelude.{◌≡◌, ◌≢◌, ℕ, ◌<◌, List, MatchOption}
use Rattle.path_shelf.specs.Paths.{module_count, path_of}
use Rattle.path_shelf.specs.Means.{first_with}

-- no module below this number has the path
abbrev pub NoneBelow : List ℕ → List ℕ → ℕ → Type 0
NoneBelow bytes path n = (j : ℕ) → j < n → path_of bytes j ≢ path

-- a module has the path, and none below it
pub record IsLowest (bytes : List ℕ) (path : List ℕ) (m : ℕ) : Type 0 where
  pub inside : m < module_count bytes
  pub has : path_of bytes m ≡ path
  pub none_below : NoneBelow bytes path m

-- each try finds the lowest module with the path, or there is none
abbrev pub LowestAnswers : Type 0
LowestAnswers = (bytes path : List ℕ) → MatchOption (first_with bytes path) (NoneBelow bytes path (module_count bytes)) (IsLowest bytes path)
