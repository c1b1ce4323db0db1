-- What the acts of a walk come to, with tables of a given room: in words, and computed.
use Rattle.std.specs.Prelude.{◌≡◌, ℕ, ◌≤◌, Bool, cond, ◌&&◌, List, [], ◌∷◌, ◌++◌, map, length, Ok, Err, Result, nat_le}
use Rattle.table.specs.Kinds.{bindings as binding_kind, places as place_kind}
use Rattle.table.specs.Table.{without}
use Rattle.table.specs.declared.binding.Binding.{Binding}
use Rattle.text.specs.Reading.{order}
use Rattle.text.specs.declared.place.Place.{Place}
use Rattle.findings.specs.Tables.{Found, Room}
use Rattle.cjs_law.specs.declared.event.Event.{Event}
use Rattle.cjs_law.specs.declared.event.Event.TheVariants.{Bind, Export, Reexport, Replace, Unsafe}
use Rattle.cjs_law.specs.Lists.{Lists, insert_all}
use Rattle.cjs_law.specs.Walk.{Act, after}

-- the keys of rows: the loose reading of a place's text, and the name of a binding
abbrev pub loosely : List ℕ → Place → List ℕ
loosely T p = place_kind.key T p

abbrev pub by_name : List ℕ → Binding → List ℕ
by_name T b = binding_kind.key T b

-- what the acts gather, by what each of their events puts before that which the acts after it gather
abbrev pub gathered : {X : Type 0} → (Event → List X → List X) → List Act → List X
gathered by [] = []
gathered by (a ∷ acts) = by a.event (gathered by acts)

-- what the acts export, in order
abbrev pub exported_by : Event → List Place → List Place
exported_by (Bind k v) ps = ps
exported_by (Export p) ps = p ∷ ps
exported_by (Unsafe p) ps = ps
exported_by (Reexport p) ps = ps
exported_by (Replace p) ps = ps

abbrev pub exported : List Act → List Place
exported = gathered exported_by

-- what they mark unsafe
abbrev pub unsafe_by : Event → List Place → List Place
unsafe_by (Bind k v) ps = ps
unsafe_by (Export p) ps = ps
unsafe_by (Unsafe p) ps = p ∷ ps
unsafe_by (Reexport p) ps = ps
unsafe_by (Replace p) ps = ps

abbrev pub marked_unsafe : List Act → List Place
marked_unsafe = gathered unsafe_by

-- what they re-export since the last clearing
abbrev pub reexported_by : Event → List Place → List Place
reexported_by (Bind k v) ps = ps
reexported_by (Export p) ps = ps
reexported_by (Unsafe p) ps = ps
reexported_by (Reexport p) ps = ps ++ p ∷ []
reexported_by (Replace p) ps = p ∷ []

abbrev pub reexported_after : List Place → List Act → List Place
reexported_after = after reexported_by

abbrev pub reexported : List Act → List Place
reexported = reexported_after []

-- the bindings, the last first, since a later one replaces
abbrev pub bound_by : Event → List Binding → List Binding
bound_by (Bind k v) bs = record { name = k; value = v } ∷ bs
bound_by (Export p) bs = bs
bound_by (Unsafe p) bs = bs
bound_by (Reexport p) bs = bs
bound_by (Replace p) bs = bs

abbrev pub bindings_after : List Binding → List Act → List Binding
bindings_after = after bound_by

abbrev pub bindings : List Act → List Binding
bindings = bindings_after []

-- the lists that the acts come to, where a text of a barred reading is in neither list of names
pub record Listing (T : List ℕ) (acts : List Act) (barred : List (List ℕ)) (f : Found) : Type 0 where
  pub bindings : Lists (by_name T) (bindings acts) [] f.bindings
  pub exports : Lists (loosely T) (exported acts) barred f.exports
  pub reexports : Lists (loosely T) (reexported acts) barred f.reexports
  pub unsafes : Lists (loosely T) (marked_unsafe acts) [] f.unsafes

-- the lists in words: an unsafe text is in neither list of names
abbrev pub Finds : List ℕ → List Act → Found → Type 0
Finds T acts = Listing T acts (map (loosely T) (marked_unsafe acts))

-- the tables after these acts, while the walk goes on: no text is dropped yet
abbrev pub Held : List ℕ → List Act → Found → Type 0
Held T acts = Listing T acts []

-- these have room
pub record Fits (room : Room) (f : Found) : Type 0 where
  pub bindings : length f.bindings ≤ room.bindings
  pub exports : length f.exports ≤ room.exports
  pub reexports : length f.reexports ≤ room.reexports
  pub unsafes : length f.unsafes ≤ room.unsafes

-- after each of these acts the tables have room
abbrev pub Always : List ℕ → Room → List Act → Type 0
Always T room acts = (before after : List Act) (f : Found) → acts ≡ before ++ after → Held T before f → Fits room f

-- there was room up to an act at row j, and then there is none
pub record Overflows (T : List ℕ) (room : Room) (acts : List Act) (j : ℕ) : Type 0 where
  pub before : List Act
  pub act : Act
  pub after : List Act
  pub split : acts ≡ before ++ act ∷ after
  pub at : act.row ≡ j
  pub fitted : Always T room before
  pub full : (f : Found) → Held T (before ++ act ∷ []) f → Fits room f → ⊥

-- what the acts come to: the lists, or the row at which a table had no free row
abbrev pub Outcome : List ℕ → Room → List Act → Result Found ℕ → Type 0
Outcome T room acts (Ok f) = Always T room acts × Finds T acts f
Outcome T room acts (Err j) = Overflows T room acts j

-- the same, computed

abbrev pub held : List ℕ → List Act → Found
held T acts =
    record {
      bindings = insert_all (by_name T) (bindings acts) [];
      exports = insert_all (loosely T) (exported acts) [];
      reexports = insert_all (loosely T) (reexported acts) [];
      unsafes = insert_all (loosely T) (marked_unsafe acts) [];
    }

-- the rows of unsafe texts leave both lists of names
abbrev pub safe : List ℕ → Found → Found
safe T f =
    record {
      bindings = f.bindings;
      exports = without order (loosely T) f.unsafes f.exports;
      reexports = without order (loosely T) f.unsafes f.reexports;
      unsafes = f.unsafes;
    }

abbrev pub fits : Room → Found → Bool
fits room f =
    nat_le (length f.bindings) room.bindings && nat_le (length f.exports) room.exports && nat_le (length f.reexports) room.reexports && nat_le (length f.unsafes) room.unsafes

abbrev pub outcome_after : List ℕ → Room → List Act → List Act → Result Found ℕ
outcome_after T room done [] = Ok (safe T (held T done))
outcome_after T room done (a ∷ acts) =
    cond (fits room (held T (done ++ a ∷ []))) (outcome_after T room (done ++ a ∷ []) acts) (Err a.row)

abbrev pub outcome : List ℕ → Room → List Act → Result Found ℕ
outcome T room acts = outcome_after T room [] acts
