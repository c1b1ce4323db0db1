-- A row with its children, the unit of every rule; what stands so at a node of a tree, and what a search from it finds.
use Rattle.std.specs.Prelude.{◌≡◌, ℕ, zero, suc, Bool, true, false, ◌||◌, List, Some, None, Option, ◌==◌}
use Rattle.text.specs.Place.{stretch}
use Rattle.text.specs.declared.place.Place.{Place}
use Rattle.tree.specs.declared.row.Row.{Row}
use Rattle.tree.specs.declared.node.Node.{Node as TreeNode}
use Rattle.tree.specs.Children.{place_of, row_of}
use Rattle.tree.specs.Forest.{Forest, nil, node, children}
use Rattle.tree.specs.Subject.{tree_rows, tree_text}

pub record Node : Type 0 where
  pub row : Row
  pub kids : Forest

-- what stands at a node of a tree, and the text section that its texts lie in. A model of the tree's Node in their
-- place was tried: a struct that is Copy and has lifetimes may have none, and a rule names these two apart
abbrev pub here : TreeNode → Node
here n = record { row = row_of n; kids = children (tree_rows n.tree.now) n.row }

abbrev pub section : TreeNode → List ℕ
section n = tree_text n.tree.now

-- what stands at a node that was found
abbrev pub seen : Option TreeNode → Option Node
seen None = None
seen (Some n) = Some (here n)

-- a node that was found stands in the tree of this one
abbrev pub InTree : TreeNode → Option TreeNode → Type 0
InTree n None = Unit {0}
InTree n (Some m) = m.tree.now ≡ n.tree.now

-- what a search from a node gives: the wanted one, standing in the node's tree
pub record Finds (n : TreeNode) (wanted : Option Node) (result : Option TreeNode) : Type 0 where
  pub is : seen result ≡ wanted
  pub tree : InTree n result

abbrev pub is : ℕ → Node → Bool
is kind n = n.row.kind == kind

-- the child at a place, counted from 0
abbrev pub child : ℕ → Forest → Option Node
child i nil = None
child zero (node j r ks rest) = Some (record { row = r; kids = ks })
child (suc i) (node j r ks rest) = child i rest

-- whether there are exactly so many
abbrev pub has_count : ℕ → Forest → Bool
has_count zero nil = true
has_count zero (node j r ks rest) = false
has_count (suc n) nil = false
has_count (suc n) (node j r ks rest) = has_count n rest

-- the last child
abbrev pub final : Forest → Option Node
final nil = None
final (node j r ks nil) = Some (record { row = r; kids = ks })
final (node j r ks (node i s ls rest)) = final (node i s ls rest)

abbrev pub any_of_kind : ℕ → Forest → Bool
any_of_kind kind nil = false
any_of_kind kind (node j r ks rest) = r.kind == kind || any_of_kind kind rest

-- all children but the first
abbrev pub past : Forest → Forest
past nil = nil
past (node j r ks rest) = rest

-- the place of a node's text
abbrev pub place : Node → Place
place n = place_of n.row

-- the bytes at a place of the text
abbrev pub read : List ℕ → Place → List ℕ
read T p = stretch T p.offset p.length

abbrev pub text_of : List ℕ → Node → List ℕ
text_of T n = read T (place n)
