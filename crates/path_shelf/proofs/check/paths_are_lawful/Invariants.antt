use Rattle.std.proofs.Common.{◌≡◌, ℕ, ◌<◌, true}
use Rattle.paths.specs.Segments.{is_path}
use Rattle.path_shelf.specs.Paths.{path_of}
use Rattle.path_shelf.proofs.check.paths_are_lawful.Given as goal

abbrev pub invariant-loop-module : goal.invariant-loop-module
invariant-loop-module l = (m : ℕ) → m < l.«module» → is_path (path_of l.bytes m) ≡ true
