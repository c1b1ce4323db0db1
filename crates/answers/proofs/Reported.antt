-- The words for a block are those of what was found in it.
use Rattle.std.proofs.Common.{◌≡◌, ℕ, List, ◌++◌, codes, sym, ◌∙◌, subst}
use Rattle.findings.specs.Tables.{Room, room_of}
use Rattle.findings.specs.declared.tables.FindingsTables.{FindingsTables}
use Rattle.block_lines.specs.Analyses.{Analysis, cjs_of, es_of}
use Rattle.block_lines.specs.declared.analyses.Analyses.{Analyses}
use Rattle.people.specs.Listed.{Lists, outcome_words}
use Rattle.people.specs.declared.names.Rules.TheVariants.{CommonJs, Es}
use Rattle.answers.specs.Report.{Described, held_text, lawful}
use Rattle.answers.specs.declared.report.Report.{Report}

pub reported : (block : List ℕ) (s t s' t' : FindingsTables) (a : Analyses) (room : Room) → Analysis 0 block s t a s' t' → room_of s ≡ room → room_of t ≡ room → (p q : List ℕ) → Lists CommonJs a.text.now a.cjs s' p → Lists Es a.text.now a.es t' q
    → let r : Report = record { rows = a.rows; kind = a.kind; is_script = a.is_script } in Described room block (held_text r ++ (codes "\n" ++ (p ++ (codes "\n" ++ q))))
reported block s t s' t' a room h e f p q lists_p lists_q =
    let r : Report = record { rows = a.rows; kind = a.kind; is_script = a.is_script } in
    let x = lists_p 0 s (cjs_of (room_of s) block) h.cjs_is ∙ (λ i. outcome_words CommonJs 0 (h.text_is i) (cjs_of (e i) block)) in
    let y = lists_q 0 t (es_of (room_of t) block) h.es_is ∙ (λ i. outcome_words Es 0 (h.text_is i) (es_of (f i) block)) in
    subst (Described room block) (sym (λ i. held_text r ++ (codes "\n" ++ (x i ++ (codes "\n" ++ y i))))) (lawful r (h.lawful, h.rows_is, h.kind_is, h.script_is))
