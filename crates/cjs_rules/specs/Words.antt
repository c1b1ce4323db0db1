-- Texts of nodes compared with fixed words, and plain strings.
use Rattle.std.specs.Prelude.{ℕ, Bool, not, ◌&&◌, List}
use Rattle.std.specs.Str.{bytes_eq}
use Rattle.kinds.specs.Kinds.{ident, str}
use Rattle.text.specs.Reading.{marked}
use Rattle.cjs_rules.specs.Nodes.{Node, is, text_of}

-- an Ident that reads so
abbrev pub is_ident : List ℕ → List ℕ → Node → Bool
is_ident T word n = is ident n && bytes_eq (text_of T n) word

-- a Str that has a plain reading
abbrev pub is_plain_str : List ℕ → Node → Bool
is_plain_str T n = is str n && not (marked (text_of T n))
