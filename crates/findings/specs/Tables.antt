-- The findings tables: how many rows they have, what they hold, and what an analysis answers.
use Rattle.std.specs.Prelude.{◌≡◌, ℕ, List, [], length, Ok, Err, Result}
use Rattle.fault.specs.declared.Fault.{Fault}
use Rattle.fault.specs.declared.Layer.TheVariants.{Findings}
use Rattle.table.specs.Kinds.{bindings, places}
use Rattle.table.specs.Table.{Left}
use Rattle.table.specs.declared.binding.Binding.{Binding}
use Rattle.text.specs.declared.place.Place.{Place}
use Rattle.findings.specs.declared.refusal.FindingsFault.{FindingsFault}
use Rattle.findings.specs.declared.refusal.FindingsFault.TheVariants.{Full}
use Rattle.findings.specs.declared.tables.FindingsTables.{FindingsTables}

-- how many rows the four tables have
pub record Room : Type 0 where
  pub bindings : ℕ
  pub exports : ℕ
  pub reexports : ℕ
  pub unsafes : ℕ

abbrev pub room_of : FindingsTables → Room
room_of t =
    record {
      bindings = length t.bindings.rows.now;
      exports = length t.exports.rows.now;
      reexports = length t.reexports.rows.now;
      unsafes = length t.unsafes.rows.now;
    }

-- what four tables list
pub record Found : Type 0 where
  pub bindings : List Binding
  pub exports : List Place
  pub reexports : List Place
  pub unsafes : List Place

abbrev pub nothing : Found
nothing = record { bindings = []; exports = []; reexports = []; unsafes = [] }

-- the whole contents of tables of so many rows: each has its list from the first row on, and then zero rows
pub record Hold (room : Room) (f : Found) (t : FindingsTables) : Type 0 where
  pub bindings : Left bindings.zero room.bindings f.bindings t.bindings.len t.bindings.rows.now
  pub exports : Left places.zero room.exports f.exports t.exports.len t.exports.rows.now
  pub reexports : Left places.zero room.reexports f.reexports t.reexports.len t.reexports.rows.now
  pub unsafes : Left places.zero room.unsafes f.unsafes t.unsafes.len t.unsafes.rows.now

-- the rows of t are lent by whoever lent those of s
pub record SameLenders (s t : FindingsTables) : Type 0 where
  pub bindings : t.bindings.rows.ghost_name ≡ s.bindings.rows.ghost_name
  pub exports : t.exports.rows.ghost_name ≡ s.exports.rows.ghost_name
  pub reexports : t.reexports.rows.ghost_name ≡ s.reexports.rows.ghost_name
  pub unsafes : t.unsafes.rows.ghost_name ≡ s.unsafes.rows.ghost_name

-- the whole contents that are left in tables which were s: these lists, in the rows that were lent to s
pub record Leaves (s : FindingsTables) (f : Found) (t : FindingsTables) : Type 0 where
  pub holds : Hold (room_of s) f t
  pub lenders : SameLenders s t

-- the refusal by its number, its layer, its module and its place
abbrev pub describe : FindingsFault → Fault
describe (Full m row) = record { number = 6; layer = Findings; «module» = m; place = row }

-- what the analysis of a module's tree answers where it comes to these lists, or to a row that needs more room
abbrev pub answered : ℕ → Result Found ℕ → Result (Unit {0}) FindingsFault
answered m (Ok f) = Ok tt
answered m (Err row) = Err (Full m row)

-- what it leaves in the tables: the lists, or nothing
abbrev pub kept : Result Found ℕ → Found
kept (Ok f) = f
kept (Err row) = nothing

-- the answer of an analysis and the whole contents that it leaves in tables which were s
pub record Analysed (m : ℕ) (s : FindingsTables) (outcome : Result Found ℕ) (r : Result (Unit {0}) FindingsFault) (t : FindingsTables) : Type 0 where
  pub answer : r ≡ answered m outcome
  pub tables : Leaves s (kept outcome) t
