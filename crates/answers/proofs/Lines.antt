-- The line of a block as it is written, and the tables after it.
use Rattle.std.proofs.Common.{◌≡◌, ℕ, List, ◌++◌, Result, refl, sym, ◌∙◌, subst, ⊎_elim}
use Rattle.std.specs.Prelude.{Option, Some, Ok, Err, IfSome, OnOk}
use Rattle.std.specs.Fmt.{◌++?◌}
use Rattle.std.specs.Io.KnownBytes.{Appends}
use Rattle.fault.specs.Line.{fault_line, found_or_fault, line_shown, line_text}
use Rattle.fault.specs.declared.Fault.{Fault}
use Rattle.findings.proofs.Leaving.{lenders_kept, own_lenders}
use Rattle.findings.specs.Tables.{Hold, Room, kept, room_of}
use Rattle.findings.specs.declared.tables.FindingsTables.{FindingsTables}
use Rattle.tree.specs.Subject.{TreeOf, tree_module}
use Rattle.tree.specs.Verdict.{Verdict}
use Rattle.tree.specs.declared.tree.Tree.{Tree}
use Rattle.tree.specs.declared.refusal.TreeFault.{TreeFault}
use Rattle.block_lines.proofs.Rooms.{cjs_room_kept, es_room_kept}
use Rattle.block_lines.specs.Analyses.{Analysis}
use Rattle.block_lines.specs.Lines.{AnswersLineOf, FindingsLineOf, refused}
use Rattle.block_lines.specs.declared.analyses.Analyses.{Analyses}
use Rattle.answers.specs.Answers.{FoundLine, LineFor, LinesAfter, MayHave, TablesAfter, WritesFound, line_end, lines_by}
use Rattle.answers.specs.Answers.TablesAfter.{analysed, refused as as_before}
use Rattle.answers.specs.Stream.{LeftBySome, SameLines, TablesKept, by_block, untouched}
use Rattle.block_lines.specs.Analyses.{cjs_of, es_of}
use Rattle.answers.specs.declared.answer.BlockLines.{BlockLines}
use Rattle.answers.specs.declared.answer.LineKind.{LineKind}
use Rattle.answers.specs.declared.answer.LineKind.TheVariants.{Answers, Findings}

-- the text that is written of a line is the line's
pub line_written : {T : Type 0} (text : T → List ℕ) (r : Result T Fault) (a b : Option (List ℕ)) → IfSome (line_text (λ x. Some (text x)) r ++? Some line_end) (Appends a b) → Appends a b (found_or_fault text r ++ line_end)
line_written text r a b put = subst (λ t. IfSome (t ++? Some line_end) (Appends a b)) (line_shown text r) put

pub on_ok : {A E : Type 0} (r : Result A E) (P Q : Type 0) → (P → Q) → OnOk r P → OnOk r Q
on_ok (Ok x) P Q f p = f p
on_ok (Err e) P Q f p = tt

-- the line of a kind that was written
module _ {T E : Type 0} (text : T → List ℕ) (line : Result T Fault) (w : Result (Unit {0}) E) (kind : LineKind) (r : Result Analyses TreeFault) (s t : FindingsTables) (a b : Option (List ℕ)) (put : OnOk w (IfSome (line_text (λ x. Some (text x)) line ++? Some line_end) (Appends a b))) where
  pub findings_written : kind ≡ Findings → FindingsLineOf r s t (found_or_fault text line) → OnOk w (WritesFound kind r s t a b)
  findings_written is told =
      on_ok w _ _ (λ p. (found_or_fault text line, subst (λ k. FoundLine k r s t (found_or_fault text line)) (sym is) (λ block u v h. told 0 block u v h), line_written text line a b p)) put

  pub answers_written : kind ≡ Answers → AnswersLineOf r s t (found_or_fault text line) → OnOk w (WritesFound kind r s t a b)
  answers_written is told =
      on_ok w _ _ (λ p. (found_or_fault text line, subst (λ k. FoundLine k r s t (found_or_fault text line)) (sym is) (λ block u v h. told 0 block u v h), line_written text line a b p)) put

-- a refusal has its fault's line, of either kind
pub refused_line : (kind : LineKind) (cjs es : Room) (block : List ℕ) (f : Fault) → Verdict 0 block (Some f) → LineFor kind cjs es block (fault_line f)
refused_line Findings cjs es block f v = refused f v
refused_line Answers cjs es block f v = refused f v

-- what is found in a tree of module 0 is found in a block that it is the tree of
pub found_in : (block : List ℕ) (tree : Tree) (s t : FindingsTables) (a : Analyses) (s' t' : FindingsTables) → ((block : List ℕ) → TreeOf block tree → Analysis (tree_module tree) block s t a s' t') → TreeOf block tree → tree_module tree ≡ 0 → Analysis 0 block s t a s' t'
found_in block tree s t a s' t' h of zero = subst (λ m. Analysis m block s t a s' t') zero (h block of)

pub tables_after : (block : List ℕ) (s t s' t' : FindingsTables) (a : Analyses) → Analysis 0 block s t a s' t' → TablesAfter block s t s' t'
tables_after block s t s' t' a h = analysed h.lawful h.cjs_is.tables h.es_is.tables

module _ (s t : FindingsTables) where
  -- left alone, then, or filled
  kept_alone : (s' t' : FindingsTables) → s' ≡ s → t' ≡ t → TablesKept s t s' t'
  kept_alone s' t' a b =
      subst (λ u. TablesKept s t u t') (sym a)
      (subst (TablesKept s t s) (sym b) (record { lenders = (own_lenders s, own_lenders t); cjs_room = refl; es_room = refl; left = untouched refl refl }))

  kept_after : (block : List ℕ) (s' t' : FindingsTables) → TablesAfter block s t s' t' → TablesKept s t s' t'
  kept_after block s' t' (as_before f v a b) = kept_alone s' t' a b
  kept_after block s' t' (analysed lawful a b) =
      record {
        lenders = (a.lenders, b.lenders);
        cjs_room = cjs_room_kept block s s' a;
        es_room = es_room_kept block t t' b;
        left = by_block block lawful a.holds b.holds;
      }

  kept_anyway : (block : List ℕ) (s' t' : FindingsTables) → MayHave block s t s' t' → TablesKept s t s' t'
  kept_anyway block s' t' h = ⊎_elim (λ same. kept_alone s' t' same.0 same.1) (kept_after block s' t') h

  left_again : (u v p q : FindingsTables) → room_of u ≡ room_of s → room_of v ≡ room_of t → LeftBySome s t u v → LeftBySome u v p q → LeftBySome s t p q
  left_again u v p q e f a (untouched x y) = subst (λ m. LeftBySome s t m q) (sym x) (subst (LeftBySome s t u) (sym y) a)
  left_again u v p q e f a (by_block block lawful h k) =
      by_block block lawful (subst (λ r. Hold r (kept (cjs_of r block)) p) e h) (subst (λ r. Hold r (kept (es_of r block)) q) f k)

  kept_again : (u v p q : FindingsTables) → TablesKept s t u v → TablesKept u v p q → TablesKept s t p q
  kept_again u v p q a b =
      record {
        lenders = (lenders_kept s u p a.lenders.0 b.lenders.0, lenders_kept t v q a.lenders.1 b.lenders.1);
        cjs_room = b.cjs_room ∙ a.cjs_room;
        es_room = b.es_room ∙ a.es_room;
        left = left_again u v p q a.cjs_room a.es_room a.left b.left;
      }

pub same_lines : (block : List ℕ) (x y : BlockLines) → LinesAfter block x y → SameLines x y
same_lines block x y after =
    record {
      kind = after.kind;
      large = kept_anyway x.cjs x.es block y.cjs y.es after.large;
      small = kept_anyway x.small_cjs x.small_es block y.small_cjs y.small_es after.small;
    }

pub same_itself : (x : BlockLines) → SameLines x x
same_itself x =
    record {
      kind = refl;
      large = kept_alone x.cjs x.es x.cjs x.es refl refl;
      small = kept_alone x.small_cjs x.small_es x.small_cjs x.small_es refl refl;
    }

pub same_after : (x y z : BlockLines) → SameLines x y → SameLines y z → SameLines x z
same_after x y z a b =
    record {
      kind = b.kind ∙ a.kind;
      large = kept_again x.cjs x.es y.cjs y.es z.cjs z.es a.large b.large;
      small = kept_again x.small_cjs x.small_es y.small_cjs y.small_es z.small_cjs z.small_es a.small b.small;
    }

-- so the lines that may be written are the same
pub lines_of_same : (x y : BlockLines) (block line : List ℕ) → SameLines x y → lines_by y block line → lines_by x block line
lines_of_same x y block line same h =
    subst (λ k. LineFor k (room_of x.cjs) (room_of x.es) block line) same.kind
    (subst (λ r. LineFor y.kind r (room_of x.es) block line) same.large.cjs_room (subst (λ r. LineFor y.kind (room_of y.cjs) r block line) same.large.es_room h))
