-- The texts of places and bindings by their numbers, and of the four lists of them.
use Rattle.std.specs.Prelude.{ℕ, List, ◌++◌, codes, decimal}
use Rattle.text.specs.declared.Place.{Place}
use Rattle.table.specs.declared.Binding.{Binding}
use Rattle.lines.specs.Listed.{listed}

-- OFFSET:LENGTH
abbrev pub place_text : Place → List ℕ
place_text p = decimal p.offset ++ (codes ":" ++ decimal p.length)

-- the place of the name, and that of the value
abbrev pub binding_text : Binding → List ℕ
binding_text b = place_text b.name ++ (codes "=" ++ place_text b.value)

abbrev pub places_text : List Place → List ℕ
places_text rows = listed place_text rows

abbrev pub bindings_text : List Binding → List ℕ
bindings_text rows = listed binding_text rows

-- the four lists, each after its letter
abbrev pub lists_text : List Binding → List Place → List Place → List Place → List ℕ
lists_text bindings exports reexports unsafes =
    codes "b " ++ (bindings_text bindings ++ (codes " e " ++ (places_text exports ++ (codes " r " ++ (places_text reexports ++ (codes " u " ++ places_text unsafes))))))
