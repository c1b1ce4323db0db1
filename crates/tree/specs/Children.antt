-- Nodes: their rows, and their children, one after the other.
use Rattle.std.specs.Prelude.{◌≡◌, ℕ, ◌+◌, ◌<◌, length, Option, MatchOption}
use Rattle.text.specs.declared.place.Place.{Place}
use Rattle.tree.specs.declared.node.Node.{Node}
use Rattle.tree.specs.declared.row.Row.{Row}
use Rattle.tree.specs.declared.node.Children.{Children}
use Rattle.tree.specs.Forest.{Forest, nil, node, children, row_at, since}
use Rattle.tree.specs.Subject.{tree_rows}

-- the children that are still to come, with what stands under each
abbrev pub left : Children → Forest
left it = since (tree_rows it.tree.now) it.rows.parent it.rows.next

-- how many rows stand at the top of a tree
abbrev pub width : Forest → ℕ
width nil = 0
width (node j r kids siblings) = width siblings + 1

-- the row of a node
abbrev pub row_of : Node → Row
row_of n = row_at (tree_rows n.tree.now) n.row

-- the children of a node, with what stands under each
abbrev pub children_of : Node → Forest
children_of n = children (tree_rows n.tree.now) n.row

-- a node with what stands under it, before its later siblings
abbrev pub beside : Node → Forest → Forest
beside n siblings = node n.row (row_of n) (children_of n) siblings

-- the place of a row's text
abbrev pub place_of : Row → Place
place_of r = record { offset = r.offset; length = r.length }

-- a node comes that is the first of those still to come, and stands below the parent; the others are left
pub record Comes (before : Children) (n : Node) (after : Children) : Type 0 where
  pub first : left before ≡ beside n (left after)
  pub tree : n.tree.now ≡ before.tree.now
  pub same : after.tree.now ≡ before.tree.now
  pub parent : after.rows.parent ≡ before.rows.parent
  pub below : before.rows.parent < n.row
  pub inside : n.row < length (tree_rows n.tree.now)

-- one step: the next child, or none where none is left
abbrev pub Gives : Children → Option Node → Children → Type 0
Gives before result after = MatchOption result ((left before ≡ nil) × (left after ≡ nil)) (λ n. Comes before n after)

-- two nodes are the first two children of a node, and the others come after them
pub record FirstTwo (n a b : Node) : Type 0 where
  pub others : Forest
  pub first : children_of n ≡ beside a (beside b others)
  pub tree : a.tree.now ≡ n.tree.now
  pub same : b.tree.now ≡ n.tree.now
  pub below : (n.row < a.row) × (n.row < b.row)
  pub inside : (a.row < length (tree_rows n.tree.now)) × (b.row < length (tree_rows n.tree.now))

-- the first two children, or none where fewer than two stand under the node
abbrev pub GivesTwo : Node → Option (Node × Node) → Type 0
GivesTwo n result = MatchOption result (width (children_of n) < 2) (λ two. FirstTwo n two.0 two.1)
