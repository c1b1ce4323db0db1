use Rattle.std.proofs.Common.{◌∙◌, ◌==◌, rules, tests}
use Rattle.std.proofs.lemmas.Iterator.Search.{any_from_yields_List}
use Rattle.kinds.specs.Kinds.{spread}
use Rattle.tree.specs.Children.{left}
use Rattle.cjs_rules.proofs.Listed.{any_listed, children_yield}
use Rattle.cjs_parse.proofs.bound.has_spread_argument.Goals as goal

pub returns : goal.returns
returns c =
    any_from_yields_List (λ n. n.0.row.kind == spread) _ _ c.any.result c.any.ensures.ran (children_yield c.args.args) (λ x b q k. search (rules, tests))
    ∙ any_listed spread c.args.args.tree.now (left c.args.args)
