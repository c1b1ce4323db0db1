use Rattle.std.proofs.Common.{arith}
use Rattle.tree.specs.Block.{rows_of}
use Rattle.tree.proofs.Cover.{covered_more}
use Rattle.tree.proofs.row.Rows.first_unlawful_child.Goals as goal

pub loop-c-preserved : goal.loop-c-preserved
loop-c-preserved c =
    (omega arith, rw c.end-next.ensures (covered_more (rows_of c.args.self) c.args.j c.loop-c.c (omega arith) c.loop-c.invariant.1 (omega arith)))
