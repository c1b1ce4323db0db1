-- The lines of a block: what `findings` and `answers` print for it.
use Rattle.std.specs.Prelude.{◌≡◌, ℕ, Bool, List, ◌++◌, take, Some, Ok, Err, codes, Result}
use Rattle.std.specs.Result.{result_and}
use Rattle.fault.specs.Line.{digit, fault_line, found_or_fault}
use Rattle.fault.specs.declared.Fault.{Fault}
use Rattle.findings.specs.Script.{is_script}
use Rattle.findings.specs.Tables.{Found, Room, describe, room_of}
use Rattle.findings.specs.declared.refusal.FindingsFault.{FindingsFault}
use Rattle.findings.specs.declared.refusal.FindingsFault.TheVariants.{Full}
use Rattle.findings.specs.declared.tables.FindingsTables.{FindingsTables}
use Rattle.lines.specs.Places.{lists_text}
use Rattle.lines.specs.declared.places.Lists.{Lists}
use Rattle.lines.specs.Texts.{loose_texts}
use Rattle.text.specs.declared.place.Place.{Place}
use Rattle.tree.specs.Block.{rows, text}
use Rattle.tree.specs.Verdict.{Lawful, Verdict}
use Rattle.tree.specs.Verdict as refusal
use Rattle.tree.specs.declared.refusal.TreeFault.{TreeFault}
use Rattle.block_lines.specs.Analyses.{AnalysisOf, cjs_of, es_of}
use Rattle.block_lines.specs.declared.analyses.Analyses.{Analyses}
use Rattle.block_lines.specs.declared.line.Report.{Report}
use Rattle.block_lines.specs.declared.line.Names.{Names}

-- what one analysis comes to: its four lists, or its fault
abbrev pub outcome_text : ℕ → Result Found ℕ → List ℕ
outcome_text m (Ok f) = lists_text f.bindings f.exports f.reexports f.unsafes
outcome_text m (Err row) = fault_line (describe (Full m row))

-- the line of `findings` for a block of a module, with tables of these rooms
pub data FindingsText (m : ℕ) (cjs es : Room) (block : List ℕ) : List ℕ → Type 0 where
  refused : (f : Fault) → Verdict m block (Some f) → FindingsText m cjs es block (fault_line f)
  found : Lawful block → FindingsText m cjs es block (digit (is_script (rows block)) ++ (codes " | " ++ (outcome_text m (cjs_of cjs block) ++ (codes " | " ++ outcome_text m (es_of es block)))))

-- exports and re-exports by their texts
abbrev pub names_text : List ℕ → List Place → List Place → List ℕ
names_text T exports reexports = loose_texts T exports ++ (codes " " ++ loose_texts T reexports)

-- both analyses of a text's tree; where one is refused, the first that is
abbrev pub both_text : ℕ → List ℕ → Bool → Result Found ℕ → Result Found ℕ → List ℕ
both_text m T script (Err row) es = fault_line (describe (Full m row))
both_text m T script (Ok f) (Err row) = fault_line (describe (Full m row))
both_text m T script (Ok f) (Ok g) = digit script ++ (codes " " ++ (names_text T f.exports f.reexports ++ (codes " " ++ names_text T g.exports g.reexports)))

-- the line of `answers` for a block of a module, with tables of these rooms
pub data AnswersText (m : ℕ) (cjs es : Room) (block : List ℕ) : List ℕ → Type 0 where
  refused : (f : Fault) → Verdict m block (Some f) → AnswersText m cjs es block (fault_line f)
  found : Lawful block → AnswersText m cjs es block (both_text m (text block) (is_script (rows block)) (cjs_of cjs block) (es_of es block))

-- lists as they stand in memory, by their text; and so the parts, the names and the lines that hold them
abbrev pub lists_of : Lists → List ℕ
lists_of l = lists_text l.bindings.now l.exports.now l.reexports.now l.unsafes.now

abbrev pub part_text : Result Lists Fault → List ℕ
part_text r = found_or_fault lists_of r

abbrev pub findings_found : Report (Result Lists Fault) → List ℕ
findings_found x =
    digit x.is_script ++ (codes " | " ++ (part_text x.cjs ++ (codes " | " ++ part_text x.es)))

abbrev pub findings_text : Result (Report (Result Lists Fault)) Fault → List ℕ
findings_text r = found_or_fault findings_found r

abbrev pub names_of : Names → List ℕ
names_of n = names_text n.text.now n.exports.now n.reexports.now

abbrev pub answers_found : Report Names → List ℕ
answers_found x =
    digit x.is_script ++ (codes " " ++ (names_of x.cjs ++ (codes " " ++ names_of x.es)))

abbrev pub answers_text : Result (Report Names) Fault → List ℕ
answers_text r = found_or_fault answers_found r

-- the rows that four tables hold
pub record ListsOf (t : FindingsTables) (l : Lists) : Type 0 where
  pub bindings : l.bindings.now ≡ take t.bindings.len t.bindings.rows.now
  pub exports : l.exports.now ≡ take t.exports.len t.exports.rows.now
  pub reexports : l.reexports.now ≡ take t.reexports.len t.reexports.rows.now
  pub unsafes : l.unsafes.now ≡ take t.unsafes.len t.unsafes.rows.now

-- what an analysis that answers so comes to, with these tables after it
abbrev pub PartOf : Result (Unit {0}) FindingsFault → FindingsTables → Result Lists Fault → Type 0
PartOf (Ok _) t (Ok l) = ListsOf t l
PartOf (Ok _) t (Err f) = ⊥
PartOf (Err e) t (Ok l) = ⊥
PartOf (Err e) t (Err f) = f ≡ describe e

-- the names that tables hold
pub record NamesOf (T : List ℕ) (t : FindingsTables) (n : Names) : Type 0 where
  pub text : n.text.now ≡ T
  pub exports : n.exports.now ≡ take t.exports.len t.exports.rows.now
  pub reexports : n.reexports.now ≡ take t.reexports.len t.reexports.rows.now

-- what the line of `findings` holds: both parts, with the tables after the analyses, or the refusal of the block
abbrev pub FindingsOf : Result Analyses TreeFault → FindingsTables → FindingsTables → Result (Report (Result Lists Fault)) Fault → Type 0
FindingsOf (Err e) s t r = r ≡ Err (refusal.describe e)
FindingsOf (Ok a) s t (Ok x) = (x.is_script ≡ a.is_script) × PartOf a.cjs s x.cjs × PartOf a.es t x.es
FindingsOf (Ok a) s t (Err f) = ⊥

-- what the line of `answers` holds where both analyses come to this: the names of both, or the first refusal
abbrev pub BothNames : Analyses → Result (Unit {0}) FindingsFault → FindingsTables → FindingsTables → Result (Report Names) Fault → Type 0
BothNames a (Err e) s t r = r ≡ Err (describe e)
BothNames a (Ok _) s t (Ok x) = (x.is_script ≡ a.is_script) × NamesOf a.text.now s x.cjs × NamesOf a.text.now t x.es
BothNames a (Ok _) s t (Err f) = ⊥

abbrev pub AnswersOf : Result Analyses TreeFault → FindingsTables → FindingsTables → Result (Report Names) Fault → Type 0
AnswersOf (Err e) s t r = r ≡ Err (refusal.describe e)
AnswersOf (Ok a) s t r = BothNames a (result_and a.cjs a.es) s t r

-- a line is that of every block in which this is found, where the analyses left these tables
abbrev pub FindingsLineOf : Result Analyses TreeFault → FindingsTables → FindingsTables → List ℕ → Type 0
FindingsLineOf r s' t' line =
    (m : ℕ) (block : List ℕ) (s t : FindingsTables) → AnalysisOf m block s t r s' t' → FindingsText m (room_of s) (room_of t) block line

abbrev pub AnswersLineOf : Result Analyses TreeFault → FindingsTables → FindingsTables → List ℕ → Type 0
AnswersLineOf r s' t' line =
    (m : ℕ) (block : List ℕ) (s t : FindingsTables) → AnalysisOf m block s t r s' t' → AnswersText m (room_of s) (room_of t) block line
