-- What events do to the tables during the walk.
use Rattle.std.specs.Prelude.{◌≡◌, ℕ, List, Option, Result}
use Rattle.text.specs.declared.place.Place.{Place}
use Rattle.table.specs.declared.table.Full.{Full}
use Rattle.cjs_law.specs.declared.event.Event.{Event}
use Rattle.cjs_parse.specs.State.{Moves, look, state}
use Rattle.cjs_parse.specs.declared.walk.Walk.{Walk}

-- the specifier that a name is bound to so far
abbrev pub bound_by : Walk → List ℕ → Option Place
bound_by w = look w.text.now (state w.tables.now).bindings

-- the same tables take the events in, or have no room for one of them
abbrev pub MovesOn : Walk → List Event → Result (Unit {0}) Full → Walk → Type 0
MovesOn v es r w = (w.text.now ≡ v.text.now) × (w.tables.ghost_name ≡ v.tables.ghost_name) × Moves v.text.now v.tables.now es r w.tables.now
