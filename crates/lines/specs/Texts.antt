-- The texts at places: their loose readings in hexadecimal.
use Rattle.std.specs.Prelude.{ℕ, ◌+◌, ◌/◌, ◌%◌, Bool, cond, ◌&&◌, List, [], ◌∷◌, ◌++◌, codes, ◌==◌, nat_lt}
use Rattle.text.specs.Place.{stretch}
use Rattle.text.specs.Reading.{loose}
use Rattle.text.specs.declared.Place.{Place}
use Rattle.lines.specs.Listed.{listed}

-- the lower-case hexadecimal digit of a number below 16
abbrev pub hex_digit : ℕ → ℕ
hex_digit n = cond (nat_lt n 10) (48 + n) (87 + n)

-- bytes by their digits, two for each
abbrev pub hex_bytes : List ℕ → List ℕ
hex_bytes [] = []
hex_bytes (b ∷ bs) = hex_digit (b / 16) ∷ hex_digit (b % 16) ∷ hex_bytes bs

-- the place of the name `default`, which stands in no text
abbrev pub is_textless : Place → Bool
is_textless p = p.offset == 0 && p.length == 4294967295

-- the reading of a text at a place: its loose reading, or the name `default`
abbrev pub reading_at : List ℕ → Place → List ℕ
reading_at text p = cond (is_textless p) (codes "default") (loose (stretch text p.offset p.length))

-- a dot goes before the digits, so that an empty text is seen
abbrev pub loose_text : List ℕ → Place → List ℕ
loose_text text p = codes "." ++ hex_bytes (reading_at text p)

abbrev pub loose_texts : List ℕ → List Place → List ℕ
loose_texts text rows = listed (loose_text text) rows
