-- What the check and the analyses of a block come to, and what they leave in the tables.
use Rattle.std.specs.Prelude.{◌≡◌, ℕ, List, length, Some, Ok, Err, Result}
use Rattle.cjs_parse.specs.Outcome.{cjs_outcome}
use Rattle.exports.specs.Listing.{es_outcome}
use Rattle.findings.specs.Script.{is_script, program_kind}
use Rattle.findings.specs.Tables.{Analysed, Found, Room, room_of}
use Rattle.findings.specs.declared.tables.FindingsTables.{FindingsTables}
use Rattle.tree.specs.Block.{rows, text}
use Rattle.tree.specs.Subject.{tree_module, tree_rows, tree_text}
use Rattle.tree.specs.Verdict.{Lawful, Verdict, describe}
use Rattle.tree.specs.declared.refusal.TreeFault.{TreeFault}
use Rattle.tree.specs.declared.tree.Tree.{Tree}
use Rattle.block_lines.specs.declared.analyses.Analyses.{Analyses}

-- what each analysis of a block comes to, with tables of a given room
abbrev pub cjs_of : Room → List ℕ → Result Found ℕ
cjs_of room block = cjs_outcome room (text block) (rows block)

abbrev pub es_of : Room → List ℕ → Result Found ℕ
es_of room block = es_outcome room (rows block)

-- the rows of a tree are counted, its program and the script test are those of the rows, and each analysis fills its own tables, which were s and t
pub record TreeAnalysis (tree : Tree) (s t : FindingsTables) (a : Analyses) (s' t' : FindingsTables) : Type 0 where
  pub text_is : a.text.now ≡ tree_text tree
  pub rows_is : a.rows ≡ length (tree_rows tree)
  pub kind_is : a.kind ≡ program_kind (tree_rows tree)
  pub script_is : a.is_script ≡ is_script (tree_rows tree)
  pub cjs_is : Analysed (tree_module tree) s (cjs_outcome (room_of s) (tree_text tree) (tree_rows tree)) a.cjs s'
  pub es_is : Analysed (tree_module tree) t (es_outcome (room_of t) (tree_rows tree)) a.es t'

-- the block is lawful; its rows are counted, its program and the script test are those of the rows, and each analysis fills its own tables, which were s and t
pub record Analysis (m : ℕ) (block : List ℕ) (s t : FindingsTables) (a : Analyses) (s' t' : FindingsTables) : Type 0 where
  pub lawful : Lawful block
  pub text_is : a.text.now ≡ text block
  pub rows_is : a.rows ≡ length (rows block)
  pub kind_is : a.kind ≡ program_kind (rows block)
  pub script_is : a.is_script ≡ is_script (rows block)
  pub cjs_is : Analysed m s (cjs_of (room_of s) block) a.cjs s'
  pub es_is : Analysed m t (es_of (room_of t) block) a.es t'

-- or the block is refused as the verdict on it has it, and the tables are as they were
pub record Refusal (m : ℕ) (block : List ℕ) (s t : FindingsTables) (f : TreeFault) (s' t' : FindingsTables) : Type 0 where
  pub verdict : Verdict m block (Some (describe f))
  pub cjs_is : s' ≡ s
  pub es_is : t' ≡ t

abbrev pub AnalysisOf : ℕ → List ℕ → FindingsTables → FindingsTables → Result Analyses TreeFault → FindingsTables → FindingsTables → Type 0
AnalysisOf m block s t (Ok a) s' t' = Analysis m block s t a s' t'
AnalysisOf m block s t (Err f) s' t' = Refusal m block s t f s' t'
