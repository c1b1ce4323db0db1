-- The check of a tree block: when it is accepted, and which refusal it gets otherwise.
use Rattle.std.specs.Prelude.{◌≡◌, ℕ, List, length, Some, None, Option, Ok, Err, Result, codes}
use Rattle.fault.specs.declared.Fault.{Fault}
use Rattle.fault.specs.declared.Layer.TheVariants.{Tree}
use Rattle.tree.specs.declared.refusal.TreeFault.{TreeFault}
use Rattle.tree.specs.declared.refusal.TreeFault.TheVariants.{Layout, End, Depth, Shape, Text}
use Rattle.tree.specs.Block.{LawfulLayout, rows, text}
use Rattle.tree.specs.Depth.{Shallow}
use Rattle.tree.specs.First.{First}
use Rattle.tree.specs.Forest.{LawfulEnd, row_at}
use Rattle.tree.specs.Shaped.{LawfulShape}
use Rattle.tree.specs.Texts.{LawfulText}

-- a refusal of the tree layer
abbrev pub tree_fault : ℕ → ℕ → ℕ → Fault
tree_fault number «module» place = record { number = number; layer = Tree; «module» = «module»; place = place }

-- every refusal by its number, its layer, its module and its place
abbrev pub describe : TreeFault → Fault
describe (Layout «module») = tree_fault 1 «module» 0
describe (End «module» row) = tree_fault 2 «module» row
describe (Depth «module» row) = tree_fault 3 «module» row
describe (Shape «module» row) = tree_fault 4 «module» row
describe (Text «module» row) = tree_fault 5 «module» row

-- what each refusal says
abbrev pub reason_words : TreeFault → List ℕ
reason_words (Layout m) = codes "the block's size or its sections are not lawful"
reason_words (End m row) = codes "the row at this place has an unlawful end"
reason_words (Depth m row) = codes "more than 256 rows enclose the row at this place"
reason_words (Shape m row) = codes "the row at this place does not fit the table of kinds"
reason_words (Text m row) = codes "the text of the row at this place is not lawful"

abbrev pub described : Option TreeFault → Option Fault
described None = None
described (Some f) = Some (describe f)

-- the first row of a block that offends against a rule, or none
abbrev pub FirstOf : List ℕ → (ℕ → Type 0) → Option ℕ → Type 0
FirstOf block Rule k = First Rule (length (rows block)) k

-- the four rules of rows, over the rows of a block
abbrev pub Ends : List ℕ → ℕ → Type 0
Ends block = LawfulEnd (rows block)

abbrev pub Depths : List ℕ → ℕ → Type 0
Depths block = Shallow (rows block)

abbrev pub Shapes : List ℕ → ℕ → Type 0
Shapes block = LawfulShape (rows block)

abbrev pub Texts : List ℕ → ℕ → Type 0
Texts block j = LawfulText (text block) (row_at (rows block) j)

-- a lawful block: no refusal's condition holds
pub record Lawful (block : List ℕ) : Type 0 where
  pub layout : LawfulLayout block
  pub ends : FirstOf block (Ends block) None
  pub depths : FirstOf block (Depths block) None
  pub shapes : FirstOf block (Shapes block) None
  pub texts : FirstOf block (Texts block) None

-- what the check of a block answers: nothing where it is lawful, else the first refusal in order, at the first row that offends
pub data Verdict (m : ℕ) (block : List ℕ) : Option Fault → Type 0 where
  accepted : Lawful block → Verdict m block None
  bad_layout : (LawfulLayout block → ⊥) → Verdict m block (Some (tree_fault 1 m 0))
  bad_end : (k : ℕ) → LawfulLayout block → FirstOf block (Ends block) (Some k) → Verdict m block (Some (tree_fault 2 m k))
  bad_depth : (k : ℕ) → LawfulLayout block → FirstOf block (Ends block) None → FirstOf block (Depths block) (Some k) → Verdict m block (Some (tree_fault 3 m k))
  bad_shape : (k : ℕ) → LawfulLayout block → FirstOf block (Ends block) None → FirstOf block (Depths block) None → FirstOf block (Shapes block) (Some k) → Verdict m block (Some (tree_fault 4 m k))
  bad_text : (k : ℕ) → LawfulLayout block → FirstOf block (Ends block) None → FirstOf block (Depths block) None → FirstOf block (Shapes block) None → FirstOf block (Texts block) (Some k) → Verdict m block (Some (tree_fault 5 m k))

-- one block has one verdict
abbrev pub OneVerdict : Type 0
OneVerdict = (m : ℕ) (block : List ℕ) (a b : Option Fault) → Verdict m block a → Verdict m block b → a ≡ b

-- the refusal in an answer, if it is one
abbrev pub fault_of : {A : Type 0} → Result A TreeFault → Option TreeFault
fault_of (Ok t) = None
fault_of (Err f) = Some f
