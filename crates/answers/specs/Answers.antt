-- The line that a block of a stream gets, and what its analyses leave in the tables.
use Rattle.std.specs.Prelude.{◌≡◌, ℕ, Bool, true, ◌&&◌, ◌⊎◌, List, ◌++◌, Option, Some, None, Result, is_ok, codes}
use Rattle.std.specs.Io.KnownBytes.{Appends}
use Rattle.fault.specs.declared.Fault.{Fault}
use Rattle.findings.specs.Tables.{Leaves, Room, kept, room_of}
use Rattle.findings.specs.declared.tables.FindingsTables.{FindingsTables}
use Rattle.tree.specs.Verdict.{Lawful, Verdict}
use Rattle.tree.specs.declared.refusal.TreeFault.{TreeFault}
use Rattle.block_lines.specs.Analyses.{Analysis, AnalysisOf, cjs_of, es_of}
use Rattle.block_lines.specs.Lines.{AnswersText, FindingsText}
use Rattle.block_lines.specs.Rooms.{is_within}
use Rattle.block_lines.specs.declared.analyses.Analyses.{Analyses}
use Rattle.answers.specs.declared.answer.BlockLines.{BlockLines}
use Rattle.answers.specs.declared.answer.LineKind.{LineKind}
use Rattle.answers.specs.declared.answer.LineKind.TheVariants.{Answers, Findings}

-- the lines that a block may get, of a kind and with tables of these rooms
abbrev pub LineFor : LineKind → Room → Room → List ℕ → List ℕ → Type 0
LineFor Findings cjs es block line = FindingsText 0 cjs es block line
LineFor Answers cjs es block line = AnswersText 0 cjs es block line

abbrev pub lines_by : BlockLines → List ℕ → List ℕ → Type 0
lines_by x = LineFor x.kind (room_of x.cjs) (room_of x.es)

-- what ends a line
abbrev pub line_end : List ℕ
line_end = codes "\n"

-- a writer was given a line that may be written here
abbrev pub WritesLine : (List ℕ → Type 0) → Option (List ℕ) → Option (List ℕ) → Type 0
WritesLine May old new = (line : List ℕ) × May line × Appends old new (line ++ line_end)

-- a writer was given a line that may be written for every block in which this is found, where the analyses left these tables
abbrev pub FoundLine : LineKind → Result Analyses TreeFault → FindingsTables → FindingsTables → List ℕ → Type 0
FoundLine kind r s' t' line =
    (block : List ℕ) (s t : FindingsTables) → AnalysisOf 0 block s t r s' t' → LineFor kind (room_of s) (room_of t) block line

abbrev pub WritesFound : LineKind → Result Analyses TreeFault → FindingsTables → FindingsTables → Option (List ℕ) → Option (List ℕ) → Type 0
WritesFound kind r s t = WritesLine (FoundLine kind r s t)

-- no analysis lacked a row
abbrev pub is_whole : Analyses → Bool
is_whole a = is_ok a.cjs && is_ok a.es

-- what the analyses of a block leave in tables which were s and t: all as it was where the block is refused
pub data TablesAfter (block : List ℕ) (s t s' t' : FindingsTables) : Type 0 where
  refused : (f : Fault) → Verdict 0 block (Some f) → s' ≡ s → t' ≡ t → TablesAfter block s t s' t'
  analysed : Lawful block → Leaves s (kept (cjs_of (room_of s) block)) s' → Leaves t (kept (es_of (room_of t) block)) t' → TablesAfter block s t s' t'

-- tables were left alone, or the analyses of a block worked in them
abbrev pub MayHave : List ℕ → FindingsTables → FindingsTables → FindingsTables → FindingsTables → Type 0
MayHave block s t s' t' = ((s' ≡ s) × (t' ≡ t)) ⊎ TablesAfter block s t s' t'

-- what stands in the tables after the line for a block
pub record LinesAfter (block : List ℕ) (x y : BlockLines) : Type 0 where
  pub kind : y.kind ≡ x.kind
  pub small : MayHave block x.small_cjs x.small_es y.small_cjs y.small_es
  pub large : MayHave block x.cjs x.es y.cjs y.es

-- the small tables are no larger than the others, and hold what is found in a block, of which more rows would change nothing
pub record InSmall (block : List ℕ) (x : BlockLines) (a : Analyses) (y : BlockLines) : Type 0 where
  pub analysis : Analysis 0 block x.small_cjs x.small_es a y.small_cjs y.small_es
  pub whole : is_whole a ≡ true
  pub cjs_within : is_within (room_of x.small_cjs) (room_of x.cjs) ≡ true
  pub es_within : is_within (room_of x.small_es) (room_of x.es) ≡ true

-- what becomes of a block in the small tables, and what stands in the tables then
pub record OtherwiseSame (block : List ℕ) (x y : BlockLines) : Type 0 where
  pub kind : y.kind ≡ x.kind
  pub small : MayHave block x.small_cjs x.small_es y.small_cjs y.small_es
  pub cjs : y.cjs ≡ x.cjs
  pub es : y.es ≡ x.es

abbrev pub Tried : List ℕ → BlockLines → Option Analyses → BlockLines → Type 0
Tried block x (Some a) y = InSmall block x a y × OtherwiseSame block x y
Tried block x None y = OtherwiseSame block x y
