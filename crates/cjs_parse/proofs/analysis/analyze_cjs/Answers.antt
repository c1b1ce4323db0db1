use Rattle.std.proofs.Common.{Err, ap, ◌∙◌}
use Rattle.cjs_parse.proofs.Settled.{settled}
use Rattle.cjs_parse.proofs.analysis.analyze_cjs.Goals as goal

pub returns-in-Ok-clause-analysed : goal.returns-in-Ok-clause-analysed
returns-in-Ok-clause-analysed c =
    let left = rw c.text_section.ensures at c.take_result.ensures in
    rw (← c.tree-tree.ensures) (settled _ _ _ _ c.clear.ensures c.in-Ok.ensures.kept _ _ _ _ _ c.in-Ok.ensures.outcome c.in-Ok.is left)

pub returns-in-Err-clause-analysed : goal.returns-in-Err-clause-analysed
returns-in-Err-clause-analysed c =
    let g = c.in-Err.ensures in
    rw (← c.tree-tree.ensures) (settled _ _ _ _ c.clear.ensures g.kept _ _ _ _ _ g.outcome (c.in-Err.is ∙ ap Err g.fault) c.clear-in-Err.ensures)
