-- What a host means under which one specifier stands for another.
use Rattle.std.specs.Prelude.{ℕ, cond, List}
use Rattle.std.specs.Str.{bytes_eq}
use Rattle.host.specs.Meaning.{Meaning}

-- what is asked below for a specifier
abbrev pub renamed : List ℕ → List ℕ → List ℕ → List ℕ
renamed from to specifier = cond (bytes_eq specifier from) to specifier

abbrev pub renamed_meaning : List ℕ → List ℕ → Meaning → Meaning
renamed_meaning from to below = record { count = below.count; block_of = below.block_of; leads = λ m specifier. below.leads m (renamed from to specifier) }
