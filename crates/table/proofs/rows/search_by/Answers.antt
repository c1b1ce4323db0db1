use Rattle.std.proofs.Common.{◌+◌, ◌-◌, ◌/◌, ◌<◌, length, Less, Equal, Greater, arith}
use Rattle.table.proofs.Places.{compared, narrowed_greater, narrowed_less}
use Rattle.table.proofs.rows.search_by.Goals as goal

pub loop-low-preserved-in-Less : goal.loop-low-preserved-in-Less
loop-low-preserved-in-Less g c =
    let low = c.loop-low.low in let high = c.loop-low.high in let mid = low + (high - low) / 2 in let rows = c.args.rows.now in
    let lt : mid < length rows = omega arith in
    let w = (g.met.F.FnMut.1.post_iff _ _ _).0 c.compare.ensures in
    (omega arith, c.loop-low.invariant.1, λ order h. narrowed_less order rows low high mid lt (compared order rows g.F.Fn mid _ _ _ c.compare.result Less h lt c.index-rows-mid.is w.1 c.in-Less.is) (c.loop-low.invariant.2 order h))

pub returns-in-Equal : goal.returns-in-Equal
returns-in-Equal g c =
    let mid = c.loop-low.low + (c.loop-low.high - c.loop-low.low) / 2 in
    let lt : mid < length c.args.rows.now = omega arith in
    let w = (g.met.F.FnMut.1.post_iff _ _ _).0 c.compare.ensures in
    record { bound = lt; position = λ order h. compared order c.args.rows.now g.F.Fn mid _ _ _ c.compare.result Equal h lt c.index-rows-mid.is w.1 c.in-Equal.is }

pub loop-low-preserved : goal.loop-low-preserved
loop-low-preserved g c =
    let low = c.loop-low.low in let high = c.loop-low.high in let mid = low + (high - low) / 2 in let rows = c.args.rows.now in
    let lt : mid < length rows = omega arith in
    let w = (g.met.F.FnMut.1.post_iff _ _ _).0 c.compare.ensures in
    (omega arith, omega arith, λ order h. narrowed_greater order rows low high mid lt (compared order rows g.F.Fn mid _ _ _ c.compare.result Greater h lt c.index-rows-mid.is w.1 c.in-Greater.is) (c.loop-low.invariant.2 order h))
