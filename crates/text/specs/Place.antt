-- Stretches of bytes, and the place that stands in no text.
use Rattle.std.specs.Prelude.{ℕ, List, take, drop}
use Rattle.text.specs.declared.place.Place.{Place}

-- the bytes from `offset` on, as many as `count` says or as there are
abbrev pub stretch : List ℕ → ℕ → ℕ → List ℕ
stretch bs offset count = take count (drop offset bs)

-- the place of the name `default`, which stands in no text
abbrev pub textless : Place
textless = record { offset = 0; length = 4294967295 }
