-- Names for people: how many they are, and each in quotes on a line of its own.
use Rattle.std.specs.Prelude.{ℕ, Bool, not, cond, ◌&&◌, List, [], ◌∷◌, ◌++◌, codes, decimal, length, ◌==◌, nat_le}
use Rattle.text.specs.declared.Place.{Place}
use Rattle.lines.specs.Texts.{hex_bytes, reading_at}

-- a printed character of ASCII that is neither the quote nor a backslash
abbrev pub is_plain : ℕ → Bool
is_plain b = nat_le 32 b && nat_le b 126 && not (b == 34) && not (b == 92)

-- such a byte as it is, and any other by its digits, so that no byte ends the line or the quotes
abbrev pub quoted_byte : ℕ → List ℕ
quoted_byte b = cond (is_plain b) (b ∷ []) (codes "\\x" ++ hex_bytes (b ∷ []))

abbrev pub inside_quotes : List ℕ → List ℕ
inside_quotes [] = []
inside_quotes (b ∷ bs) = quoted_byte b ++ inside_quotes bs

-- a name on a line of its own, between quotes
abbrev pub name_line : List ℕ → Place → List ℕ
name_line text name = codes "\n    \"" ++ (inside_quotes (reading_at text name) ++ codes "\"")

abbrev pub name_lines : List ℕ → List Place → List ℕ
name_lines text [] = []
name_lines text (row ∷ rows) = name_line text row ++ name_lines text rows

-- how many there are, and then each
abbrev pub counted_names : List ℕ → List Place → List ℕ
counted_names text rows = decimal (length rows) ++ name_lines text rows
