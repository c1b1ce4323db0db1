-- The report of a tree block, and its words.
use Rattle.std.specs.Prelude.{◌≡◌, ℕ, Bool, cond, List, ◌++◌, length, Some, Ok, Err, Result, codes, decimal}
use Rattle.fault.specs.Line.{fault_line}
use Rattle.findings.specs.Script.{is_script, kind_word, program_kind}
use Rattle.findings.specs.Tables.{Room}
use Rattle.block_lines.specs.Analyses.{cjs_of, es_of}
use Rattle.people.specs.Listed.{listed_text, outcome_words}
use Rattle.people.specs.declared.names.Rules.TheVariants.{CommonJs, Es}
use Rattle.tree.specs.Block.{rows, text}
use Rattle.tree.specs.Verdict.{Lawful, Verdict, describe, reason_words}
use Rattle.tree.specs.declared.refusal.TreeFault.{TreeFault}
use Rattle.answers.specs.declared.report.Report.{Report}
use Rattle.answers.specs.declared.report.WholeReport.{WholeReport}

-- a report gives the refusal that the verdict on the block has; or the block is lawful, and the report tells how many rows it has,
-- what its program is, and whether that is treated as a script
abbrev pub ReportOf : ℕ → List ℕ → Result Report TreeFault → Type 0
ReportOf m block (Err refusal) = Verdict m block (Some (describe refusal))
ReportOf m block (Ok r) =
    Lawful block × (r.rows ≡ length (rows block)) × (r.kind ≡ program_kind (rows block)) × (r.is_script ≡ is_script (rows block))

-- the word for the answer to a question
abbrev pub yes_or_no : Bool → List ℕ
yes_or_no answer = cond answer (codes "yes") (codes "no")

-- what a lawful block holds, in lines
abbrev pub held_text : Report → List ℕ
held_text r =
    codes "a lawful tree block\nrows: " ++ (decimal r.rows ++ (codes "\nprogram: " ++ (kind_word r.kind ++ (codes "\ntreated as a script: " ++ yes_or_no r.is_script))))

-- the words of a report, in lines: that the block is refused, with the fault's line and its reason; or what it holds
abbrev pub report_text : Result Report TreeFault → List ℕ
report_text (Err refusal) =
    codes "not a lawful tree block\n" ++ (fault_line (describe refusal) ++ (codes ": " ++ reason_words refusal))
report_text (Ok r) = held_text r

-- what a lawful block holds, and what each analysis lists of it with tables of this room
abbrev pub described : Room → List ℕ → Report → List ℕ
described room block r =
    held_text r ++ (codes "\n" ++ (outcome_words CommonJs 0 (text block) (cjs_of room block) ++ (codes "\n" ++ outcome_words Es 0 (text block) (es_of room block))))

-- the same by what stands in memory
abbrev pub whole_text : WholeReport → List ℕ
whole_text x = held_text x.report ++ (codes "\n" ++ (listed_text x.cjs.rules x.cjs.names ++ (codes "\n" ++ listed_text x.es.rules x.es.names)))

-- the words for a block: that it is refused, with the fault's line and its reason; or what it holds and what is listed of it
pub data Described (room : Room) (block : List ℕ) : List ℕ → Type 0 where
  refused : (e : TreeFault) → ReportOf 0 block (Err e) → Described room block (report_text (Err e))
  lawful : (r : Report) → ReportOf 0 block (Ok r) → Described room block (described room block r)
