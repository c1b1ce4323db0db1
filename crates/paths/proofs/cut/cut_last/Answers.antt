use Rattle.std.proofs.Common.{◌<◌, arith}
use Rattle.paths.proofs.Split.{cut_at, whole_last}
use Rattle.paths.proofs.cut.cut_last.Goals as goal

pub returns-then-start-eq0 : goal.returns-then-start-eq0
returns-then-start-eq0 c = whole_last c.args.text.now c.last_start-start.result c.if-start-eq0.true c.last_start-start.ensures.no_slash

pub returns-else-start-eq0 : goal.returns-else-start-eq0
returns-else-start-eq0 c =
    let some : 0 < c.last_start-start.result = omega arith in
    cut_at c.args.text.now c.last_start-start.result some c.last_start-start.ensures.within c.last_start-start.ensures.no_slash (c.last_start-start.ensures.slash some)
