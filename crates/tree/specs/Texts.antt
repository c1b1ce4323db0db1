-- The texts of rows.
use Rattle.std.specs.Prelude.{◌≡◌, ℕ, ◌+◌, ◌≤◌, List, length, Some, None, Option, IsUtf8}
use Rattle.text.specs.Place.{stretch}
use Rattle.text.specs.Points.{Wtf8 as IsWtf8}
use Rattle.kinds.specs.declared.shape.Encoding.{Encoding}
use Rattle.kinds.specs.declared.shape.Encoding.TheVariants.{Utf8, Wtf8}
use Rattle.kinds.specs.Shape.{text_of}
use Rattle.tree.specs.declared.row.Row.{Row}

-- the text of a row
abbrev pub text_at : List ℕ → Row → List ℕ
text_at section r = stretch section r.offset r.length

-- the text lies in its section
abbrev pub Inside : List ℕ → Row → Type 0
Inside section r = r.offset + r.length ≤ length section

abbrev pub LawfulAs : Option Encoding → List ℕ → Row → Type 0
LawfulAs None section r = (r.offset ≡ 0) × (r.length ≡ 0)
LawfulAs (Some Utf8) section r = Inside section r × IsUtf8 (text_at section r)
LawfulAs (Some Wtf8) section r = Inside section r × IsWtf8 (text_at section r)

-- a row whose kind has a text has one inside the section, UTF-8, or WTF-8 for a Str; any other row has the place 0, 0
abbrev pub LawfulText : List ℕ → Row → Type 0
LawfulText section r = LawfulAs (text_of r.kind) section r
