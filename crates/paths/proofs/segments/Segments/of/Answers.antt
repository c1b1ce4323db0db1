use Rattle.std.proofs.Common.{arith}
use Rattle.paths.proofs.Split.{few_segments}
use Rattle.paths.proofs.segments.Segments.of.Goals as goal

pub invariant_of-result : goal.invariant_of-result
invariant_of-result c = record { few = omega (arith, few_segments c.args.text.now) }
