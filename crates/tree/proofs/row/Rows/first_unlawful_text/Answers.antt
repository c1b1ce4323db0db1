use Rattle.std.proofs.Common.{rules}
use Rattle.std.proofs.lemmas.Iterator.{IsFirst-from_position, YieldsList-from_slice}
use Rattle.tree.specs.Texts.{LawfulText}
use Rattle.tree.proofs.Found.{Obeys, first_row_found}
use Rattle.tree.proofs.row.Rows.first_unlawful_text.Goals as goal

pub returns : goal.returns
returns c =
    let rows = c.args.self.now.bytes.now in
    let Rule = LawfulText c.args.section.now in
    first_row_found Rule rows c.position.result
    (IsFirst-from_position _ _ c.position.result (λ bytes. Obeys Rule rows bytes → ⊥) (Obeys Rule rows) c.position.ensures.ran (YieldsList-from_slice _ c.iter.ensures.rest) (λ x q d. search (rules, d)) (λ x q d. search (rules, d)))
