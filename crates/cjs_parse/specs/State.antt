-- What the tables hold during the walk, and what events do to them.
use Rattle.std.specs.Prelude.{◌≡◌, ℕ, ◌+◌, cond, List, [], ◌∷◌, take, Some, None, Ok, Err, Option, Result}
use Rattle.std.specs.Result.{MatchResult}
use Rattle.std.specs.Str.{bytes_eq}
use Rattle.table.specs.Kind.{Holds}
use Rattle.table.specs.Kinds.{bindings as binding_kind, places as place_kind}
use Rattle.table.specs.Table.{put_row}
use Rattle.table.specs.declared.binding.Binding.{Binding}
use Rattle.table.specs.declared.table.Full.{Full}
use Rattle.text.specs.Reading.{order}
use Rattle.text.specs.declared.place.Place.{Place}
use Rattle.findings.specs.Tables.{Found, Room, SameLenders, room_of}
use Rattle.findings.specs.declared.refusal.FindingsFault.{FindingsFault}
use Rattle.findings.specs.declared.refusal.FindingsFault.TheVariants.{Full as Refused}
use Rattle.findings.specs.declared.tables.FindingsTables.{FindingsTables}
use Rattle.cjs_law.specs.declared.event.Event.{Event}
use Rattle.cjs_law.specs.declared.event.Event.TheVariants.{Bind, Export, Reexport, Replace, Unsafe}
use Rattle.cjs_law.specs.Findings.{by_name, fits, loosely, outcome, safe}
use Rattle.cjs_law.specs.Lists.{insert}
use Rattle.cjs_law.specs.Walk.{acts_of, skips}
use Rattle.tree.specs.Forest.{end_at, row_at}
use Rattle.tree.specs.declared.row.Row.{Row}

-- the rows below the counts
abbrev pub state : FindingsTables → Found
state t =
    record {
      bindings = take t.bindings.len t.bindings.rows.now;
      exports = take t.exports.len t.exports.rows.now;
      reexports = take t.reexports.len t.reexports.rows.now;
      unsafes = take t.unsafes.len t.unsafes.rows.now;
    }

-- each table is in order, and its rest is zero
pub record Sound (T : List ℕ) (t : FindingsTables) : Type 0 where
  pub bindings : Holds binding_kind T t.bindings.len t.bindings.rows.now
  pub exports : Holds place_kind T t.exports.len t.exports.rows.now
  pub reexports : Holds place_kind T t.reexports.len t.reexports.rows.now
  pub unsafes : Holds place_kind T t.unsafes.len t.unsafes.rows.now

-- the specifier that a name is bound to in a table of bindings
abbrev pub look : List ℕ → List Binding → List ℕ → Option Place
look T [] name = None
look T (b ∷ bs) name = cond (bytes_eq (by_name T b) name) (Some b.value) (look T bs name)

-- one event, where there is room
abbrev pub apply : List ℕ → Event → Found → Found
apply T (Bind k v) f = record { bindings = put_row order (by_name T) (record { name = k; value = v }) f.bindings; exports = f.exports; reexports = f.reexports; unsafes = f.unsafes }
apply T (Export p) f = record { bindings = f.bindings; exports = insert (loosely T) p f.exports; reexports = f.reexports; unsafes = f.unsafes }
apply T (Unsafe p) f = record { bindings = f.bindings; exports = f.exports; reexports = f.reexports; unsafes = insert (loosely T) p f.unsafes }
apply T (Reexport p) f = record { bindings = f.bindings; exports = f.exports; reexports = insert (loosely T) p f.reexports; unsafes = f.unsafes }
apply T (Replace p) f = record { bindings = f.bindings; exports = f.exports; reexports = insert (loosely T) p []; unsafes = f.unsafes }

-- one after the other, up to one for which there is no room
unfoldable pub goes : List ℕ → Room → List Event → Found → Option Found
goes T room [] f = Some f
goes T room (e ∷ es) f = cond (fits room (apply T e f)) (goes T room es (apply T e f)) None

-- as many rows, lent by whoever lent them
pub record Kept (v w : FindingsTables) : Type 0 where
  pub room : room_of w ≡ room_of v
  pub lenders : SameLenders v w

-- the tables have taken the events in
pub record Moved (T : List ℕ) (v : FindingsTables) (es : List Event) (w : FindingsTables) : Type 0 where
  pub to : goes T (room_of v) es (state v) ≡ Some (state w)
  pub kept : Kept v w
  pub sound : Sound T w

-- there is no room for one of them
pub record Stuck (T : List ℕ) (v : FindingsTables) (es : List Event) (w : FindingsTables) : Type 0 where
  pub full : goes T (room_of v) es (state v) ≡ None
  pub kept : Kept v w

abbrev pub Moves : List ℕ → FindingsTables → List Event → Result (Unit {0}) Full → FindingsTables → Type 0
Moves T v es (Ok _) w = Moved T v es w
Moves T v es (Err _) w = Stuck T v es w

-- the row that the walk comes to after row j
abbrev pub after : List Row → ℕ → ℕ
after rs j = cond (skips (row_at rs j)) (end_at rs j) (j + 1)

-- the walk over rows ends with the tables of its outcome, but that no text is dropped yet
pub record Finished (T : List ℕ) (rs : List Row) (v w : FindingsTables) : Type 0 where
  pub outcome : outcome T (room_of v) (acts_of T rs) ≡ Ok (safe T (state w))
  pub kept : Kept v w
  pub sound : Sound T w

-- it is refused at the row of its outcome
pub record GaveUp (m : ℕ) (T : List ℕ) (rs : List Row) (v : FindingsTables) (e : FindingsFault) (w : FindingsTables) : Type 0 where
  pub row : ℕ
  pub fault : e ≡ Refused m row
  pub outcome : outcome T (room_of v) (acts_of T rs) ≡ Err row
  pub kept : Kept v w

-- the walk over the rows of a module's tree ends, or is refused
abbrev pub Ends : ℕ → List ℕ → List Row → FindingsTables → Result (Unit {0}) FindingsFault → FindingsTables → Type 0
Ends m T rs v r w = MatchResult r (λ _. Finished T rs v w) (λ e. GaveUp m T rs v e w)
