-- Places appended to a list, as far as its table has room; an item listed in two lists, and all items of a module in
-- two tables.
use Rattle.std.specs.Prelude.{◌≡◌, ℕ, ◌&&◌, List, [], ◌∷◌, ◌++◌, length, is_ok, Some, None, Ok, Err, Option, Result, nat_le}
use Rattle.exports.specs.Listing.{listed, listing}
use Rattle.exports.specs.declared.append.PlaceList.{PlaceList}
use Rattle.findings.specs.Tables.{Found, Room}
use Rattle.findings.specs.declared.refusal.FindingsFault.{FindingsFault}
use Rattle.findings.specs.declared.refusal.FindingsFault.TheVariants.{Full as NoRoom}
use Rattle.table.specs.Kind.{Appended, Extended, Leaves, capacity, held}
use Rattle.table.specs.Kinds.{no_place, places}
use Rattle.table.specs.Table.{Rest}
use Rattle.table.specs.declared.table.Full.{Full}
use Rattle.table.specs.declared.table.OrderedTable.{OrderedTable}
use Rattle.text.specs.declared.place.Place.{Place}
use Rattle.tree.specs.Forest.{Forest}

-- the rows past the count are zero
abbrev pub Ready : OrderedTable Place → Type 0
Ready t = Rest no_place t.len t.rows.now

-- places appended to a list, whose table stays that of the same lender
pub record Lists (ys : List Place) (s : PlaceList) (r : Result (Unit {0}) Full) (t : PlaceList) : Type 0 where
  pub appended : Appended places ys s.table.now r t.table.now
  pub same : t.table.ghost_name ≡ s.table.ghost_name

-- an answer that may be absent, as a list
abbrev pub optional : Option Place → List Place
optional None = []
optional (Some p) = p ∷ []

-- names appended to one list, and stars to another
pub record ItemListed (names stars : List Place) (s s' : PlaceList) (r : Result (Unit {0}) Full) (t t' : PlaceList) : Type 0 where
  pub answer : is_ok r ≡ (nat_le (length (held s.table.now ++ names)) (capacity s.table.now) && nat_le (length (held s'.table.now ++ stars)) (capacity s'.table.now))
  pub exports : Extended places names s.table.now t.table.now
  pub reexports : Extended places stars s'.table.now t'.table.now
  pub same : (t.table.ghost_name ≡ s.table.ghost_name) × (t'.table.ghost_name ≡ s'.table.ghost_name)

-- the room of two tables, for exports and for re-exports
abbrev pub room_for : OrderedTable Place → OrderedTable Place → Room
room_for s s' = record { bindings = 0; exports = capacity s; reexports = capacity s'; unsafes = 0 }

-- what items come to after what two tables hold
abbrev pub outcome_after : OrderedTable Place → OrderedTable Place → Forest → Result Found ℕ
outcome_after s s' f = listed (room_for s s') (held s) (held s') f

-- the two tables hold all names and all stars
pub record AllListed (f : Forest) (s s' t t' : OrderedTable Place) : Type 0 where
  pub names : List Place
  pub stars : List Place
  pub outcome : outcome_after s s' f ≡ Ok (listing names stars)
  pub exports : Leaves places names s t
  pub reexports : Leaves places stars s' t'

-- there is no room for the item at row j, and the rows are those that were lent
pub record NotListed (f : Forest) (s s' : OrderedTable Place) (j : ℕ) (t t' : OrderedTable Place) : Type 0 where
  pub outcome : outcome_after s s' f ≡ Err j
  pub room : (capacity t ≡ capacity s) × (capacity t' ≡ capacity s')
  pub lenders : (t.rows.ghost_name ≡ s.rows.ghost_name) × (t'.rows.ghost_name ≡ s'.rows.ghost_name)

-- all items of a module are listed, or one is refused
abbrev pub ItemsListed : ℕ → Forest → OrderedTable Place → OrderedTable Place → Result (Unit {0}) FindingsFault → OrderedTable Place → OrderedTable Place → Type 0
ItemsListed m f s s' (Ok _) t t' = AllListed f s s' t t'
ItemsListed m f s s' (Err (NoRoom n j)) t t' = (n ≡ m) × NotListed f s s' j t t'
