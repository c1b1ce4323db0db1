-- The chain goes over the links in their order.
use Rattle.std.proofs.Common.{arith, ◌≡◌, rules}
use Rattle.std.proofs.lemmas.Iterator.{YieldsList-from_map, YieldsList-from_range}
use Rattle.std.proofs.lemmas.Iterator.Search.{find_from_yields_List}
use Rattle.std.specs.List.{find}
use Rattle.std.specs.Option.{option_map}
use borrow.Author.Tests.{tests}
use Rattle.link_shelf.specs.Links.{link, link_count, links}
use Rattle.link_shelf.specs.Means.{is_of}
use Rattle.link_shelf.proofs.Targets.{target_of}
use Rattle.link_shelf.proofs.layout.lookup.Goals as goal

pub returns : goal.returns
unfolding links
returns c =
    let first : option_map (λ l. l) c.find.result ≡ find (is_of c.args.bytes.now c.args.module c.args.specifier.now) (links c.args.bytes.now) =
    find_from_yields_List (is_of c.args.bytes.now c.args.module c.args.specifier.now) _ _ c.find.result c.find.ensures.ran
    (YieldsList-from_map _ (link c.args.bytes.now) (YieldsList-from_range 0 (link_count c.args.bytes.now) (link_count c.args.bytes.now) (cc) (omega arith)) c.map.ensures.closure (λ x r q k. search rules))
    (λ x b q k. search (rules, tests)) in
    target_of _ (λ l t h. search rules) c.find.result (find (is_of c.args.bytes.now c.args.module c.args.specifier.now) (links c.args.bytes.now)) c.map-2.result c.map-2.ensures.cases first
