use Rattle.std.proofs.Common.{◌≡◌, ℕ, ◌*◌, List, length}
use Rattle.std.specs.Io.KnownBytes.{Consumes}
use Rattle.tree.specs.declared.layout.TheConstants.{LONGEST_BLOCK}
use Rattle.answers.proofs.stream.pass_over.Given as goal

abbrev pub invariant-loop : goal.invariant-loop
invariant-loop g l = (bs : List ℕ) × (length bs ≡ l.counter * LONGEST_BLOCK) × Consumes (g.R.Read.remaining l.initial.input) (g.R.Read.remaining l.input) bs
