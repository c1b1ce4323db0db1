use Rattle.std.proofs.Common.{rules, tests, ap, ◌∙◌}
use Rattle.tree.specs.Forest.{children}
use Rattle.tree.specs.Subject.{tree_rows}
use Rattle.findings.specs.Script.{first_shows}
use Rattle.findings.proofs.Asking.{first_told}
use Rattle.findings.proofs.parsed_source.Module.children_show_script.Goals as goal

pub returns : goal.returns
returns c =
    c.unwrap_or.ensures
    ∙ first_told _ _ (λ n b q k. search (rules, tests)) c.children.result c.find_map.result c.find_map.ensures.runs
    ∙ ap first_shows c.children.ensures.left
    ∙ (λ i. first_shows (children (tree_rows (c.node.ensures.tree i)) (c.node.ensures.row i)))
