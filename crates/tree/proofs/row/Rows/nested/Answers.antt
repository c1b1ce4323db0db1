use Rattle.std.proofs.Common.{◌≡◌, ◌∙◌, length, inl, inr, subst, sym, ⊎_elim, arith}
use Rattle.tree.specs.Block.{rows_of}
use Rattle.tree.specs.Forest.{end_at}
use Rattle.tree.proofs.Cover.{Looked, lawful_to, look, offends}
use Rattle.tree.proofs.Grown.{nested}
use Rattle.tree.proofs.row.Rows.nested.Goals as goal

pub returns-then-j-limit : goal.returns-then-j-limit
returns-then-j-limit c =
    let rs = rows_of c.args.self in
    let w : end_at rs 0 ≡ length rs = sym c.end.ensures ∙ c.if-end-count.false ∙ c.count-count.ensures in
    (omega arith, offends rs _ _ c.loop-j.invariant (omega arith) (⊎_elim (λ e. inl e) (λ n. inr (omega arith)) c.then-j-limit.either), lawful_to rs _ _ c.loop-j.invariant w)

pub loop-j-preserved : goal.loop-j-preserved
loop-j-preserved c =
    let rs = rows_of c.args.self in
    subst (Looked rs _) (sym c.unwrap_or-limit.ensures) (look rs _ _ _ c.loop-j.invariant (omega arith) (omega arith) c.first_unlawful_child.ensures)

pub invariant_of-result : goal.invariant_of-result
invariant_of-result c =
    let rs = rows_of c.args.self in
    let w : end_at rs 0 ≡ length rs = sym c.end.ensures ∙ c.if-end-count.false ∙ c.count-count.ensures in
    record { nested = nested rs (λ j h. lawful_to rs _ _ c.loop-j.invariant w j (omega arith)) }
