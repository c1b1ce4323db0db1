-- What is found in small tables without lacking a row is what is found in larger ones.
use Rattle.std.proofs.Common.{◌≡◌, ℕ, true, List, ◌++◌, Ok, Err, Result, codes, refl, sym, ap, ◌∙◌, subst, true≢false}
use Rattle.std.proofs.lemmas.Bool.{and_parts}
use Rattle.std.specs.Prelude.{OnOk, Option, Some, is_ok}
use Rattle.fault.specs.Line.{digit}
use Rattle.findings.specs.Script.{is_script}
use Rattle.findings.specs.Tables.{Found, Room, answered, room_of}
use Rattle.findings.specs.declared.refusal.FindingsFault.{FindingsFault}
use Rattle.findings.specs.declared.tables.FindingsTables.{FindingsTables}
use Rattle.tree.specs.Block.{rows, text}
use Rattle.block_lines.proofs.Rooms.{Within, cjs_same, es_same, within_so}
use Rattle.block_lines.specs.Analyses.{Analysis, cjs_of, es_of}
use Rattle.block_lines.specs.Lines.{AnswersText, FindingsText, both_text, found, outcome_text, refused}
use Rattle.block_lines.specs.declared.analyses.Analyses.{Analyses}
use Rattle.answers.proofs.Lines.{on_ok}
use Rattle.answers.specs.Answers.{InSmall, LineFor, Tried, WritesFound, WritesLine, is_whole, lines_by}
use Rattle.answers.specs.declared.answer.BlockLines.{BlockLines}
use Rattle.answers.specs.declared.answer.LineKind.{LineKind}
use Rattle.answers.specs.declared.answer.LineKind.TheVariants.{Answers, Findings}

accepted : (o : Result Found ℕ) (a : Result (Unit {0}) FindingsFault) → a ≡ answered 0 o → is_ok a ≡ true → (f : Found) × (o ≡ Ok f)
accepted (Ok f) a e h = (f, refl)
accepted (Err j) a e h = absurd (true≢false (sym h ∙ ap is_ok e))

module _ (block : List ℕ) (cjs es k l : Room) where
  -- the lines are the same where the analyses come to the same
  module _ (a : cjs_of k block ≡ cjs_of cjs block) (b : es_of l block ≡ es_of es block) where
    findings_same : (line : List ℕ) → FindingsText 0 cjs es block line → FindingsText 0 k l block line
    findings_same line (refused f v) = refused f v
    findings_same line (found lawful) =
        subst (FindingsText 0 k l block) (λ i. digit (is_script (rows block)) ++ (codes " | " ++ (outcome_text 0 (a i) ++ (codes " | " ++ outcome_text 0 (b i))))) (found lawful)

    answers_same : (line : List ℕ) → AnswersText 0 cjs es block line → AnswersText 0 k l block line
    answers_same line (refused f v) = refused f v
    answers_same line (found lawful) = subst (AnswersText 0 k l block) (λ i. both_text 0 (text block) (is_script (rows block)) (a i) (b i)) (found lawful)

    line_same : (kind : LineKind) (line : List ℕ) → LineFor kind cjs es block line → LineFor kind k l block line
    line_same Findings line h = findings_same line h
    line_same Answers line h = answers_same line h

line_whole : (block : List ℕ) (s t s' t' : FindingsTables) (x : Analyses) (k l : Room) → Analysis 0 block s t x s' t' → is_whole x ≡ true → Within (room_of s) k → Within (room_of t) l
    → (kind : LineKind) (line : List ℕ) → LineFor kind (room_of s) (room_of t) block line → LineFor kind k l block line
line_whole block s t s' t' x k l h whole a b kind line m =
    let (p, q) = and_parts _ _ whole in
    let (f, is) = accepted (cjs_of (room_of s) block) x.cjs h.cjs_is.answer p in
    let (g, so) = accepted (es_of (room_of t) block) x.es h.es_is.answer q in
    line_same block (room_of s) (room_of t) k l (cjs_same (room_of s) k a block f is) (es_same (room_of t) l b block g so) kind line m

-- a line of what was found in the small tables may be written for the block
pub small_line : (block : List ℕ) (x y : BlockLines) (a : Analyses) → InSmall block x a y → (line : List ℕ) → LineFor x.kind (room_of x.small_cjs) (room_of x.small_es) block line → lines_by x block line
small_line block x y a h line m =
    line_whole block x.small_cjs x.small_es y.small_cjs y.small_es a (room_of x.cjs) (room_of x.es) h.analysis h.whole (within_so _ _ h.cjs_within) (within_so _ _ h.es_within) x.kind line m

-- so it is written for the block
pub small_written : {E : Type 0} (block : List ℕ) (x y : BlockLines) (analyses : Analyses) → Tried block x (Some analyses) y → (w : Result (Unit {0}) E) (a b : Option (List ℕ)) → OnOk w (WritesFound y.kind (Ok analyses) y.small_cjs y.small_es a b) → OnOk w (WritesLine (lines_by x block) a b)
small_written block x y analyses tried w a b put =
    let (small, same) = tried in
    on_ok w _ _
    (λ (line, may, wrote). (line, small_line block x y analyses small line (subst (λ k. LineFor k (room_of x.small_cjs) (room_of x.small_es) block line) same.kind (may block x.small_cjs x.small_es small.analysis)), wrote)) put
