use Rattle.std.proofs.Common.{ℕ, rules, length}
use Rattle.std.proofs.lemmas.Iterator.{first_from_Range}
use Rattle.tree.specs.Block.{rows_of}
use Rattle.tree.specs.Shaped.{LawfulShape}
use Rattle.tree.proofs.Found.{first_found}
use Rattle.tree.proofs.nested.NestedRows.first_unshaped.Goals as goal

pub returns : goal.returns
returns c =
    let rs = rows_of c.args.self.now.rows in
    let Rule = λ (j : ℕ). LawfulShape rs j in
    first_found Rule _ (length rs) _ c.count.ensures
    (first_from_Range _ _ _ c.find.result (λ j. Rule j → ⊥) Rule c.find.ensures.ran (λ x q d. search (rules, d)) (λ x q d. search (rules, d)))
