-- Pairs of an offset and a length, one after the other in the bytes of a shelf.
use Rattle.std.specs.Prelude.{◌≡◌, ℕ, ◌+◌, ◌*◌, ◌<◌, ◌≤◌, List, length}
use Rattle.text.specs.Number.{le32}
use Rattle.text.specs.Place.{stretch}
use Rattle.text.specs.declared.place.Place.{Place}

-- the place of the pair at byte `at`
abbrev pub place_at : List ℕ → ℕ → Place
place_at bytes at = record { offset = le32 bytes at; length = le32 bytes (at + 4) }

-- where a place ends, as a whole number that does not wrap
abbrev pub end_of : Place → ℕ
end_of place = place.offset + place.length

-- a part of the bytes is all that lies at a place within them
pub record IsPartAt (bytes : List ℕ) (place : Place) (part : List ℕ) : Type 0 where
  pub inside : end_of place ≤ length bytes
  pub bytes_there : part ≡ stretch bytes place.offset place.length
  pub as_long : length part ≡ place.length

-- the place of pair m of the pairs from `start` on
abbrev pub pair : List ℕ → ℕ → ℕ → Place
pair bytes start m = place_at bytes (start + 8 * m)

-- so many pairs from `start` on name places within the bytes
abbrev pub EachInside : List ℕ → ℕ → ℕ → Type 0
EachInside bytes start count = (m : ℕ) → m < count → end_of (pair bytes start m) ≤ length bytes

-- each of them ends before the next begins, or where it begins
abbrev pub EachBeforeNext : List ℕ → ℕ → ℕ → Type 0
EachBeforeNext bytes start count = (m : ℕ) → m + 1 < count → end_of (pair bytes start m) ≤ (pair bytes start (m + 1)).offset

-- the blocks of so many modules lie within the shelf, in order and without overlap
pub record LawfulBlocks (bytes : List ℕ) (start : ℕ) (count : ℕ) : Type 0 where
  pub inside : EachInside bytes start count
  pub in_order : EachBeforeNext bytes start count

-- what that means for any two of them: the later one begins where the earlier one has ended
abbrev pub NoBlocksOverlap : Type 0
NoBlocksOverlap =
    (bytes : List ℕ) (start count : ℕ) → LawfulBlocks bytes start count → (m n : ℕ) → m < n → n < count → end_of (pair bytes start m) ≤ (pair bytes start n).offset
