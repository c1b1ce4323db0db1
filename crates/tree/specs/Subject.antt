-- The tree that a check hands out, by its module, its rows and its text.
use Rattle.std.specs.Prelude.{◌≡◌, ℕ, List}
use Rattle.tree.specs.declared.row.Row.{Row}
use Rattle.tree.specs.declared.tree.Tree.{Tree}
use Rattle.tree.specs.Block.{rows_of, rows, text}
use Rattle.tree.specs.Verdict.{Lawful}

abbrev pub tree_module : Tree → ℕ
tree_module t = t.«module»

abbrev pub tree_rows : Tree → List Row
tree_rows t = rows_of t.rows.rows

abbrev pub tree_text : Tree → List ℕ
tree_text t = t.text.now

-- the tree is that of a lawful block
pub record TreeOf (block : List ℕ) (t : Tree) : Type 0 where
  pub lawful : Lawful block
  pub same_rows : tree_rows t ≡ rows block
  pub same_text : tree_text t ≡ text block
