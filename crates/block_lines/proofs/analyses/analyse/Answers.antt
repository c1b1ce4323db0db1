use Rattle.std.proofs.Common.{subst}
use Rattle.block_lines.specs.Analyses.{Analysis}
use Rattle.block_lines.proofs.analyses.analyse.Goals as goal

pub returns : goal.returns
returns c =
    let (of, belongs) = c.in_ok-tree.ensures.tree in
    subst (λ m. Analysis m c.args.block.now c.args.cjs.now c.args.es.now c.analyse_tree.result c.analyse_tree.new.cjs c.analyse_tree.new.es) belongs (c.analyse_tree.ensures.block c.args.block.now of)
