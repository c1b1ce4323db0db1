use Rattle.tree.specs.Block.{rows_of}
use Rattle.tree.proofs.Cover.{Looked}
use Rattle.tree.proofs.row.Rows.nested.Given as goal

abbrev pub invariant-loop-j : goal.invariant-loop-j
invariant-loop-j l = Looked (rows_of l.self) l.j l.limit
