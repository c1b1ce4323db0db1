use Rattle.std.proofs.Common.{◌≡◌, ◌∙◌, rules, tests}
use Rattle.std.specs.List.{find}
use Rattle.std.specs.Option.{option_map}
use Rattle.std.proofs.lemmas.Iterator.Search.{find_from_yields_List}
use Rattle.tree.specs.Children.{left}
use Rattle.tree.specs.Subject.{tree_text}
use Rattle.cjs_rules.specs.Rules.{get_object_define_get_prop}
use Rattle.cjs_rules.proofs.Listed.{children_yield, first_get_listed, found_under, listed, names_get, viewed}
use Rattle.cjs_rules.proofs.properties.get_object_define_get_prop.Goals as goal

pub returns : goal.returns
returns c =
    let it = c.children.result in
    let first : option_map viewed c.find.result ≡ find names_get (listed it.tree.now (left it)) =
    find_from_yields_List names_get _ _ c.find.result c.find.ensures.ran (children_yield it) (λ x b q k. search (rules, tests)) in
    found_under (λ t f. get_object_define_get_prop (tree_text t) f) c.args.object it _ c.find.result c.children.ensures.tree c.children.ensures.left
    (first ∙ first_get_listed it.tree.now (left it))
