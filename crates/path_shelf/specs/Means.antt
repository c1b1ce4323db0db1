-- What a path shelf means.
use Rattle.std.specs.Prelude.{ℕ, List, ◌++◌, reverse, codes, Option, Some, None}
use Rattle.std.specs.List.{find, range_with_len}
use Rattle.std.specs.Option.{option_or}
use Rattle.std.specs.Str.{bytes_eq}
use Rattle.host.specs.Meaning.{Meaning}
use Rattle.paths.specs.Join.{Held, join}
use Rattle.paths.specs.Segments.{text_of}
use Rattle.path_shelf.specs.Paths.{block_of, module_count, path_of}

-- the lowest module with a path
abbrev pub first_with : List ℕ → List ℕ → Option ℕ
first_with bytes path = find (λ m. bytes_eq (path_of bytes m) path) (range_with_len 0 (module_count bytes))

-- the module that a joined path leads to: one with this path, else one with `.js` after it, else one with `/index.js`
abbrev pub found : List ℕ → List ℕ → Option ℕ
found bytes path =
    option_or (first_with bytes path) (option_or (first_with bytes (path ++ codes ".js")) (first_with bytes (path ++ codes "/index.js")))

-- where names lead, the last one first
abbrev pub names_lead : List ℕ → Held → Option ℕ
names_lead bytes None = None
names_lead bytes (Some names) = found bytes (text_of (reverse names))

-- where a specifier leads that is joined to the path of its module
abbrev pub leads : List ℕ → ℕ → List ℕ → Option ℕ
leads bytes m specifier = names_lead bytes (join (path_of bytes m) specifier)

abbrev pub means : List ℕ → Meaning
means bytes = record { count = module_count bytes; block_of = block_of bytes; leads = leads bytes }
