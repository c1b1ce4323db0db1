-- The nodes that the walk comes to, one after the other.
use Rattle.std.specs.Prelude.{◌≡◌, ◌<◌, ◌≤◌, length, Option, MatchOption}
use Rattle.tree.specs.declared.node.Node.{Node}
use Rattle.tree.specs.Subject.{tree_rows}
use Rattle.cjs_parse.specs.State.{after}
use Rattle.cjs_parse.specs.declared.visited.Visited.{Visited}

-- the walk comes to a node, and goes on at the row that follows it
pub record Comes (before : Visited) (n : Node) (then : Visited) : Type 0 where
  pub row : n.row ≡ before.next
  pub inside : before.next < length (tree_rows before.tree.now)
  pub tree : n.tree.now ≡ before.tree.now
  pub same : then.tree.now ≡ before.tree.now
  pub next : then.next ≡ after (tree_rows before.tree.now) before.next

-- past the rows there is no node, and nothing moves
pub record Ended (before then : Visited) : Type 0 where
  pub past : length (tree_rows before.tree.now) ≤ before.next
  pub same : then.tree.now ≡ before.tree.now
  pub next : then.next ≡ before.next

-- one step: the next node, or none past the rows
abbrev pub Gives : Visited → Option Node → Visited → Type 0
Gives before result then = MatchOption result (Ended before then) (λ n. Comes before n then)
