-- The lines that the analyses and the refusals come to.
use Rattle.std.proofs.Common.{◌≡◌, ℕ, List, ◌++◌, Ok, Err, codes, Result, sym, ◌∙◌, subst}
use Rattle.std.specs.Result.{IsErrAnd, result_and}
use Rattle.fault.specs.Line.{digit}
use Rattle.fault.specs.declared.Fault.{Fault}
use Rattle.findings.specs.Script.{is_script}
use Rattle.findings.specs.Tables.{room_of}
use Rattle.findings.specs.Tables as tables
use Rattle.findings.specs.declared.refusal.FindingsFault.{FindingsFault}
use Rattle.findings.specs.declared.tables.FindingsTables.{FindingsTables}
use Rattle.lines.specs.declared.places.Lists.{Lists}
use Rattle.tree.specs.Block.{rows, text}
use Rattle.tree.specs.Verdict.{describe}
use Rattle.tree.specs.declared.refusal.TreeFault.{TreeFault}
use Rattle.block_lines.specs.Analyses.{Analysis, Refusal, cjs_of, es_of}
use Rattle.block_lines.specs.Lines.{AnswersText, FindingsText, NamesOf, PartOf, answers_found, answers_text, findings_found, findings_text, found, names_of, refused}
use Rattle.block_lines.specs.declared.analyses.Analyses.{Analyses}
use Rattle.block_lines.specs.declared.line.Report.{Report}
use Rattle.block_lines.specs.declared.line.Names.{Names}
use Rattle.block_lines.proofs.Parts.{accepted_text, part_text_is_outcome, refused_text}
use Rattle.block_lines.proofs.Shown.{fault_shown}

module _ (m : ℕ) (block : List ℕ) (s t : FindingsTables) (s' t' : FindingsTables) where
  pub findings_refused : (e : TreeFault) (r : Result (Report (Result Lists Fault)) Fault) → Refusal m block s t e s' t' → IsErrAnd r (λ f. f ≡ describe e) → FindingsText m (room_of s) (room_of t) block (findings_text r)
  findings_refused e r refusal converted =
      subst (FindingsText m (room_of s) (room_of t) block) (sym (fault_shown findings_found r _ converted)) (refused _ refusal.verdict)

  pub findings_told : (a : Analyses) (x y : Result Lists Fault) → Analysis m block s t a s' t' → PartOf a.cjs s' x → PartOf a.es t' y → FindingsText m (room_of s) (room_of t) block (findings_found (record { is_script = a.is_script; cjs = x; es = y }))
  findings_told a x y analysis p q =
      let cjs = part_text_is_outcome m s (cjs_of (room_of s) block) a.cjs s' x analysis.cjs_is p in
      let es = part_text_is_outcome m t (es_of (room_of t) block) a.es t' y analysis.es_is q in
      subst (FindingsText m (room_of s) (room_of t) block)
      (sym (λ i. digit (analysis.script_is i) ++ (codes " | " ++ (cjs i ++ (codes " | " ++ es i)))))
      (found analysis.lawful)

  pub answers_refused : (e : TreeFault) (r : Result (Report Names) Fault) → Refusal m block s t e s' t' → IsErrAnd r (λ f. f ≡ describe e) → AnswersText m (room_of s) (room_of t) block (answers_text r)
  answers_refused e r refusal converted =
      subst (AnswersText m (room_of s) (room_of t) block) (sym (fault_shown answers_found r _ converted)) (refused _ refusal.verdict)

  pub answers_without_room : (a : Analyses) (e : FindingsFault) (r : Result (Report Names) Fault) → Analysis m block s t a s' t' → Err e ≡ result_and a.cjs a.es → IsErrAnd r (λ f. f ≡ tables.describe e) → AnswersText m (room_of s) (room_of t) block (answers_text r)
  answers_without_room a e r analysis is converted =
      let first = is ∙ (λ i. result_and (analysis.cjs_is.answer i) (analysis.es_is.answer i)) in
      subst (AnswersText m (room_of s) (room_of t) block)
      (sym (fault_shown answers_found r _ converted ∙ refused_text m (text block) (is_script (rows block)) (cjs_of (room_of s) block) (es_of (room_of t) block) _ first))
      (found analysis.lawful)

  pub answers_told : (a : Analyses) (u : Unit {0}) (x y : Names) → Analysis m block s t a s' t' → Ok u ≡ result_and a.cjs a.es → NamesOf a.text.now s' x → NamesOf a.text.now t' y → AnswersText m (room_of s) (room_of t) block (answers_found (record { is_script = a.is_script; cjs = x; es = y }))
  answers_told a u x y analysis is p q =
      let cjs = subst (λ T. NamesOf T s' x) analysis.text_is p in
      let es = subst (λ T. NamesOf T t' y) analysis.text_is q in
      let accepted = is ∙ (λ i. result_and (analysis.cjs_is.answer i) (analysis.es_is.answer i)) in
      let told = accepted_text m (text block) (is_script (rows block)) (room_of s) (room_of t) s' t' (cjs_of (room_of s) block) (es_of (room_of t) block) x y analysis.cjs_is.tables.holds analysis.es_is.tables.holds accepted cjs es in
      subst (AnswersText m (room_of s) (room_of t) block)
      (sym ((λ i. digit (analysis.script_is i) ++ (codes " " ++ (names_of x ++ (codes " " ++ names_of y)))) ∙ told))
      (found analysis.lawful)
