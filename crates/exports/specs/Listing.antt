-- What a program exports and re-exports, in source order and with repeats, and the outcome in tables of a given room.
use Rattle.std.specs.Prelude.{◌≡◌, ℕ, ◌<◌, ◌≤◌, Bool, cond, ◌&&◌, List, [], ◌++◌, length, Ok, Err, Result, ◌==◌, nat_le}
use Rattle.findings.specs.Tables.{Found, Room}
use Rattle.text.specs.declared.place.Place.{Place}
use Rattle.tree.specs.declared.row.Row.{Row}
use Rattle.tree.specs.Enclosure.{EnclosesDirectly}
use Rattle.tree.specs.Forest.{Forest, Nested, children, nil, node, row_at}
use Rattle.cjs_rules.specs.Nodes.{Node}
use Rattle.exports.specs.Beyond.{item_names}
use Rattle.exports.specs.ExportedNames.{each, star_of}

-- the items of a program: the children of its root; a script has none
abbrev pub items : List Row → Forest
items rs = cond ((row_at rs 0).mark == 1) nil (children rs 0)

-- what these names and these re-exports are as findings
abbrev pub listing : List Place → List Place → Found
listing names stars = record { bindings = []; exports = names; reexports = stars; unsafes = [] }

-- all that some items export and re-export
abbrev pub listing_of : Forest → Found
listing_of f = listing (each item_names f) (each star_of f)

-- there is room for so much
abbrev pub has_enough_room : Room → Found → Bool
has_enough_room room f = nat_le (length f.exports) room.exports && nat_le (length f.reexports) room.reexports

-- item by item, with what the items before export and re-export: the row of the first item for which there is no room,
-- or the lists
abbrev pub listed : Room → List Place → List Place → Forest → Result Found ℕ
listed room names stars nil = Ok (listing names stars)
listed room names stars (node j r f rest) =
    let n : Node = record { row = r; kids = f } in
    cond (has_enough_room room (listing (names ++ item_names n) (stars ++ star_of n)))
    (listed room (names ++ item_names n) (stars ++ star_of n) rest)
    (Err j)

abbrev pub es_outcome : Room → List Row → Result Found ℕ
es_outcome room rs = listed room [] [] (items rs)

-- the items up to row c and with it
abbrev pub up_to : ℕ → Forest → Forest
up_to c nil = nil
up_to c (node j r f rest) = cond (nat_le j c) (node j r f (up_to c rest)) nil

-- there is room for all that some items export and re-export
pub record Fits (room : Room) (f : Forest) : Type 0 where
  pub exports : length (each item_names f) ≤ room.exports
  pub reexports : length (each star_of f) ≤ room.reexports

-- row c is the first child of the root up to which there is no room
pub record FirstWithoutRoom (room : Room) (rs : List Row) (c : ℕ) : Type 0 where
  pub child : EnclosesDirectly rs 0 c
  pub full : Fits room (up_to c (items rs)) → ⊥
  pub before : (i : ℕ) → EnclosesDirectly rs 0 i → i < c → Fits room (up_to i (items rs))

-- the outcome in words
pub record ListedWholeOrRefusedAtTheFirstChildWithoutRoom : Type 0 where
  -- accepted exactly where there is room for all names and all re-exports of the program
  pub accepted : (room : Room) (rs : List Row) → Fits room (items rs) → es_outcome room rs ≡ Ok (listing_of (items rs))
  pub only : (room : Room) (rs : List Row) (found : Found) → es_outcome room rs ≡ Ok found → Fits room (items rs)
  -- refused, in rows with lawful ends, exactly at the first child up to which there is no room
  pub refused : (room : Room) (rs : List Row) → Nested rs → (c : ℕ) → es_outcome room rs ≡ Err c → FirstWithoutRoom room rs c
  pub first : (room : Room) (rs : List Row) → Nested rs → (c : ℕ) → FirstWithoutRoom room rs c → es_outcome room rs ≡ Err c
