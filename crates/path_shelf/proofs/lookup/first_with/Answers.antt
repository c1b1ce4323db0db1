use Rattle.std.proofs.Common.{◌≡◌, ℕ, ◌++◌, Option, Some, None, arith, refl, rules, ◌∙◌}
use Rattle.std.proofs.lemmas.Iterator.{YieldsList-from_range}
use Rattle.std.proofs.lemmas.Iterator.Search.{find_from_yields_List}
use Rattle.std.specs.Option.{option_map}
use Rattle.std.specs.Str.{bytes_eq}
use borrow.Author.Tests.{tests}
use Rattle.paths.specs.Joined.{joined_text}
use Rattle.path_shelf.specs.Means.{first_with}
use Rattle.path_shelf.specs.Paths.{module_count, path_of}
use Rattle.path_shelf.proofs.lookup.first_with.Goals as goal

unmapped : (o : Option ℕ) → o ≡ option_map (λ m. m) o
unmapped None = refl
unmapped (Some m) = refl

pub returns : goal.returns
returns c =
    let text = joined_text c.args.joined ++ c.args.ending.now in
    let first : option_map (λ m. m) c.find.result ≡ first_with c.args.bytes.now text =
    find_from_yields_List (λ m. bytes_eq (path_of c.args.bytes.now m) text) _ _ c.find.result c.find.ensures.ran
    (YieldsList-from_range 0 (module_count c.args.bytes.now) (module_count c.args.bytes.now) (cc) (omega arith))
    (λ x b q k. search (rules, tests)) in
    unmapped c.find.result ∙ first
