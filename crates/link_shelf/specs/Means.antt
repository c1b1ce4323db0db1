-- What a link shelf means.
use Rattle.std.specs.Prelude.{ℕ, List, Bool, ◌&&◌, ◌==◌, Option}
use Rattle.std.specs.List.{find}
use Rattle.std.specs.Option.{option_map}
use Rattle.std.specs.Str.{bytes_eq}
use Rattle.host.specs.Meaning.{Meaning}
use Rattle.link_shelf.specs.declared.link.Link.{Link}
use Rattle.link_shelf.specs.Links.{block_of, links, module_count, specifier_of}

-- whether a link is that of a module's specifier
abbrev pub is_of : List ℕ → ℕ → List ℕ → Link → Bool
is_of bytes m specifier l = l.«module» == m && bytes_eq (specifier_of bytes l) specifier

-- where the first such link leads
abbrev pub leads : List ℕ → ℕ → List ℕ → Option ℕ
leads bytes m specifier = option_map (λ l. l.target) (find (is_of bytes m specifier) (links bytes))

abbrev pub means : List ℕ → Meaning
means bytes = record { count = module_count bytes; block_of = block_of bytes; leads = leads bytes }
