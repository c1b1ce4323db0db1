-- The walk over rows with lawful ends, and the acts at its rows, in the subject's own words.
use Rattle.std.specs.Prelude.{◌≡◌, ℕ, ◌<◌, false, ◌↔◌, List, ◌∷◌, ◌++◌, length, Some, Result}
use Rattle.table.specs.declared.binding.Binding.{Binding}
use Rattle.text.specs.declared.place.Place.{Place}
use Rattle.tree.specs.declared.row.Row.{Row}
use Rattle.tree.specs.Forest.{Encloses, LawfulEnd, children, row_at}
use Rattle.findings.specs.Tables.{Found, Room}
use Rattle.cjs_law.specs.Events.{events}
use Rattle.cjs_law.specs.Findings.{Outcome, by_name, outcome}
use Rattle.cjs_law.specs.Laws.{BindsLast}
use Rattle.cjs_law.specs.Lists.{In}
use Rattle.cjs_law.specs.Walk.{Act, Visit, acts_at, acts_of, bound, skips, walk}

-- each of the rows has a lawful end
abbrev pub LawfulEnds : List Row → Type 0
LawfulEnds rs = (j : ℕ) → j < length rs → LawfulEnd rs j

-- row j is one of the rows, and no row that encloses it is skipped
abbrev pub UnderNoSkippedRow : List Row → ℕ → Type 0
UnderNoSkippedRow rs j = (j < length rs) × ((i : ℕ) → Encloses rs i j → skips (row_at rs i) ≡ false)

-- row j, with its children
abbrev pub visit_at : List Row → ℕ → Visit
visit_at rs j = record { number = j; row = row_at rs j; kids = children rs j }

-- the walk comes to each of these rows, with its children, and to nothing else
abbrev pub WalkedRowsAreThoseUnderNoSkippedRow : Type 0
WalkedRowsAreThoseUnderNoSkippedRow =
    (rs : List Row) → LawfulEnds rs → (v : Visit) → In v (walk rs) ↔ (UnderNoSkippedRow rs v.number × (v ≡ visit_at rs v.number))

-- a row that it comes to later has a greater number
abbrev pub WalkRises : Type 0
WalkRises =
    (rs : List Row) → LawfulEnds rs → (before after : List Visit) (v w : Visit) →
    walk rs ≡ before ++ v ∷ after → In w after → v.number < w.number

-- the acts at a row are what its rule asks for, in that order, with the names bound by the acts at earlier rows
pub record ActsAt (T : List ℕ) (acts : List Act) (v : Visit) : Type 0 where
  pub before : List Act
  pub after : List Act
  pub split : acts ≡ before ++ acts_at v.number (events T (bound T before) v.row v.kids) ++ after
  pub earlier : (a : Act) → In a before → a.row < v.number
  pub later : (a : Act) → In a after → v.number < a.row

-- these acts are at each row under no skipped row what is asked for there, and at no other row
pub record ActsOfRows (T : List ℕ) (rs : List Row) (acts : List Act) : Type 0 where
  pub at : (j : ℕ) → UnderNoSkippedRow rs j → ActsAt T acts (visit_at rs j)
  pub only : (a : Act) → In a acts → UnderNoSkippedRow rs a.row

-- the last of these acts that binds the name binds it to v
abbrev pub BoundTo : List ℕ → List Act → List ℕ → Place → Type 0
BoundTo T acts name v = (b : Binding) × BindsLast T acts b × (by_name T b ≡ name) × (b.value ≡ v)

pub record WalkedRowsDecideTheActs : Type 0 where
  -- which rows are walked, and in which order
  pub rows : WalkedRowsAreThoseUnderNoSkippedRow
  pub rises : WalkRises
  -- the acts of the walk are those of its rows, and no others are
  pub acts : (T : List ℕ) (rs : List Row) → LawfulEnds rs → (acts : List Act) → ActsOfRows T rs acts ↔ (acts ≡ acts_of T rs)
  -- a name is bound by the last act that binds it
  pub bound : (T : List ℕ) (acts : List Act) (name : List ℕ) (v : Place) → (bound T acts name ≡ Some v) ↔ BoundTo T acts name v
  -- so an analysis comes to r exactly where acts of the rows come to it, in words
  pub outcome :
      (T : List ℕ) (room : Room) (rs : List Row) → LawfulEnds rs → (r : Result Found ℕ) →
      (outcome T room (acts_of T rs) ≡ r) ↔ ((acts : List Act) × ActsOfRows T rs acts × Outcome T room acts r)
