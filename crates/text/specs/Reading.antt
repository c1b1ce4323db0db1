-- The readings of text that may hold surrogates: the loose reading, its order and its writing, and the plain reading.
use Rattle.std.specs.Prelude.{ℕ, ◌+◌, Bool, false, cond, ◌&&◌, ◌||◌, List, [], ◌∷◌, ◌++◌, length, take, drop, Some, None, Option, ◌==◌, nat_le, slice_index}
use Rattle.std.specs.declared.cmp.Ordering.{Ordering}
use Rattle.std.specs.Borrow.{Bor}
use Rattle.std.specs.Cmp.Lexicographic.{slice_cmp}
use Rattle.text.specs.declared.reading.LooseBytes.{LooseBytes}
use Rattle.std.specs.Ordering.{nat_cmp}

-- the byte b and the bytes bs after it begin with a surrogate: ED, and then A0 or more
abbrev pub begins : ℕ → List ℕ → Bool
begins b bs = b == 237 && nat_le 160 (slice_index bs 0)

-- bytes begin with a surrogate
abbrev pub begun : List ℕ → Bool
begun bs = begins (slice_index bs 0) (drop 1 bs)

-- the loose reading of bytes of which the first ones, the end of a surrogate, are read as `pending`
abbrev pub loose_after : List ℕ → List ℕ → List ℕ
loose_after pending [] = []
loose_after (p ∷ pending) (b ∷ bs) = p ∷ loose_after pending bs
loose_after [] (b ∷ bs) = cond (begins b bs) (239 ∷ loose_after (191 ∷ 189 ∷ []) bs) (b ∷ loose_after [] bs)

-- the loose reading: each surrogate becomes EF BF BD
abbrev pub loose : List ℕ → List ℕ
loose bs = loose_after [] bs

-- a surrogate occurs
abbrev pub marked : List ℕ → Bool
marked [] = false
marked (b ∷ bs) = begins b bs || marked bs

-- the plain reading: the bytes themselves, absent where a surrogate occurs
abbrev pub plain : List ℕ → Option (List ℕ)
plain bs = cond (marked bs) None (Some bs)

-- the bytes that an optional slice shows
abbrev pub seen : Option (Bor (List ℕ)) → Option (List ℕ)
seen None = None
seen (Some t) = Some t.now

-- the order of two lists of bytes, first byte first
abbrev pub order : List ℕ → List ℕ → Ordering
order xs ys = slice_cmp nat_cmp xs ys

-- what is still to come of a loose reading
abbrev pub to_come : LooseBytes → List ℕ
to_come bytes = loose_after bytes.pending.now bytes.rest.now

-- the reading of a text fits into `out` from `at` on
abbrev pub fits : List ℕ → List ℕ → ℕ → Bool
fits text out at = nat_le (at + length text) (length out)

-- where the loose reading of a text ends that is written over `out` from `at` on
abbrev pub written_end : List ℕ → List ℕ → ℕ → Option ℕ
written_end text out at = cond (fits text out at) (Some (at + length text)) None

-- what `out` then holds: the bytes before the reading and after it are as they were
abbrev pub written : List ℕ → List ℕ → ℕ → List ℕ
written text out at = cond (fits text out at) (take at out ++ loose text ++ drop (at + length text) out) out
