-- Laws of the readings: what they are by code points, and that the order by loose readings is total.
use Rattle.std.specs.Prelude.{◌≡◌, ℕ, Bool, false, cond, ◌&&◌, ◌||◌, List, [], ◌∷◌, map, length, is_some, IsUtf8, Decides, nat_le, nat_lt}
use Rattle.std.specs.declared.cmp.Ordering.TheVariants.{Equal}
use Rattle.std.specs.declared.cmp.Ordering.{Ordering}
use Rattle.std.proofs.Math.Utf8.{encodes}
use Rattle.std.specs.Cmp.{IsTotalOrder}
use Rattle.std.specs.Cmp.Lexicographic.{on_texts}
use Rattle.text.specs.Points.{Wtf8}
use Rattle.text.specs.Reading.{loose, marked, plain, order}

-- a surrogate, high or low: D800 to DFFF
abbrev pub surrogate : ℕ → Bool
surrogate c = nat_le 55296 c && nat_lt c 57344

-- a surrogate is among the code points
abbrev pub any_surrogate : List ℕ → Bool
any_surrogate [] = false
any_surrogate (c ∷ cs) = surrogate c || any_surrogate cs

-- the code point FFFD in place of a surrogate
abbrev pub replaced : ℕ → ℕ
replaced c = cond (surrogate c) 65533 c

pub record PlainByCodePoints : Type 0 where
  -- the bytes of code points are marked where a surrogate is among them
  pub marks : (cs : List ℕ) → marked (encodes cs) ≡ any_surrogate cs
  -- well-formed WTF-8 has a plain reading where it is UTF-8, and only there
  pub text : (bs : List ℕ) → Wtf8 bs → Decides (is_some (plain bs)) (IsUtf8 bs)

pub record LooseByCodePoints : Type 0 where
  -- each surrogate among the code points is replaced
  pub replaces : (cs : List ℕ) → loose (encodes cs) ≡ encodes (map replaced cs)
  -- a reading is as long as its text
  pub length_kept : (bs : List ℕ) → length (loose bs) ≡ length bs
  -- the loose reading of well-formed WTF-8 is UTF-8
  pub text : (bs : List ℕ) → Wtf8 bs → IsUtf8 (loose bs)

-- the order of two texts by their loose readings
abbrev pub loose_cmp : List ℕ → List ℕ → Ordering
loose_cmp a b = order (loose a) (loose b)

-- it has std's laws of a total order
abbrev pub by_loose : IsTotalOrder loose_cmp
by_loose = on_texts loose

pub record LooseOrderIsTotal : Type 0 where
  -- the other way round it is reversed, it is transitive, and texts that are equal in it compare alike
  pub total : IsTotalOrder loose_cmp
  -- equal in this order means equal loose readings
  pub same : (a b : List ℕ) → order (loose a) (loose b) ≡ Equal → loose a ≡ loose b
