-- Code points: reading them from bytes one after the other, and well-formed WTF-8. UTF-8 is std's `IsUtf8`.
use Rattle.std.specs.Prelude.{◌≡◌, ℕ, ◌<◌, Bool, true, false, not, ◌&&◌, List, [], ◌∷◌, ◌++◌, length, Option, Some, None, Result, Ok, Err, ◌≢◌, nat_le, nat_lt}
use Rattle.std.proofs.Math.Utf8.{encode, encodes}
use Rattle.text.specs.declared.points.Malformed.{Malformed}

-- the bytes are the encoding of one code point
abbrev pub OnePoint : List ℕ → Type 0
OnePoint bs = (n : ℕ) × (n < 1114112) × (encode n ≡ bs)

-- no code point's encoding stands at the start of the bytes
abbrev pub NoPoint : List ℕ → Type 0
NoPoint bs = (n : ℕ) (rest : List ℕ) → n < 1114112 → bs ≢ encode n ++ rest

-- one step through the code points of bytes: nothing is left, or the first one comes and `after` is left, or none begins
abbrev pub Leads : List ℕ → Option (Result ℕ Malformed) → List ℕ → Type 0
Leads before None after = (before ≡ []) × (after ≡ [])
Leads before (Some (Ok n)) after = (n < 1114112) × (before ≡ encode n ++ after)
Leads before (Some (Err e)) after = NoPoint before × (length after < length before)

-- a high surrogate: D800 to DBFF
abbrev pub high : ℕ → Bool
high c = nat_le 55296 c && nat_lt c 56320

-- a low surrogate: DC00 to DFFF
abbrev pub low : ℕ → Bool
low c = nat_le 56320 c && nat_lt c 57344

-- all are code points: at most 10FFFF
abbrev pub points : List ℕ → Bool
points [] = true
points (c ∷ cs) = nat_lt c 1114112 && points cs

-- no high surrogate is directly followed by a low one, `after_high` saying whether a high one stands before the list
abbrev pub unpaired : Bool → List ℕ → Bool
unpaired after_high [] = true
unpaired after_high (c ∷ cs) = not (after_high && low c) && unpaired (high c) cs

-- what may follow in well-formed WTF-8, after a high surrogate or not
abbrev pub Wtf8After : Bool → List ℕ → Type 0
Wtf8After after_high bs = (cs : List ℕ) × ((points cs ≡ true) × (unpaired after_high cs ≡ true) × (encodes cs ≡ bs))

-- well-formed WTF-8: the encoding of code points in which no high surrogate is directly followed by a low one
abbrev pub Wtf8 : List ℕ → Type 0
Wtf8 bs = Wtf8After false bs
