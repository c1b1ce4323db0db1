use Rattle.std.proofs.Common.{◌≡◌, ◌-◌, length}
use Rattle.tree.specs.Block.{rows_of}
use Rattle.tree.specs.ChildRows.{rest}
use Rattle.tree.specs.Depth.{deep}
use Rattle.tree.proofs.nested.NestedRows.+first_deep_under.Given as goal

abbrev pub decreases-first_deep_under : goal.decreases-first_deep_under
decreases-first_deep_under l = length (rows_of l.self.now.rows) - l.j

abbrev pub invariant-loop-c : goal.invariant-loop-c
invariant-loop-c l =
    (goal.iterator-loop-c).can_next l.c-iterator
    × (goal.iterator-loop-c).is_finite l.c-iterator
    × (l.c-iterator.rows ≡ l.initial.c-iterator.rows)
    × (l.c-iterator.parent ≡ l.initial.c-iterator.parent)
    × (deep l.depth (rest l.initial.c-iterator) ≡ deep l.depth (rest l.c-iterator))
