-- The three kinds of rows.
use Rattle.std.specs.Prelude.{ℕ, List, [], ◌∷◌}
use Rattle.text.specs.Place.{stretch}
use Rattle.text.specs.Reading.{loose, order}
use Rattle.text.specs.declared.place.Place.{Place}
use Rattle.table.specs.declared.binding.Binding.{Binding}
use Rattle.table.specs.declared.loose_end.LooseEnd.{LooseEnd}
use Rattle.table.specs.Kind.{Kind}

-- the text at a place
abbrev pub text_at : List ℕ → Place → List ℕ
text_at text p = stretch text p.offset p.length

abbrev pub no_place : Place
no_place = record { offset = 0; length = 0 }

-- places of a text, by the loose reading
abbrev pub places : Kind Place
places = record { key = λ text p. loose (text_at text p); zero = no_place; order = order }

-- bindings, by the bytes of their names
abbrev pub bindings : Kind Binding
bindings = record { key = λ text b. text_at text b.name; zero = record { name = no_place; value = no_place }; order = order }

-- loose ends, by module, offset and length
abbrev pub loose_ends : Kind LooseEnd
loose_ends = record {
  key = λ _ e. e.«module» ∷ e.offset ∷ e.length ∷ [];
  zero = record { «module» = 0; offset = 0; length = 0 };
  order = order;
}
