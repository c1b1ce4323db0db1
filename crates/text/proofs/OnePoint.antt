-- The readings of the bytes of one code point and of what follows it.
use Rattle.std.proofs.Common.{◌≡◌, ℕ, ◌+◌, ◌/◌, ◌<◌, ◌≤◌, true, false, ◌||◌, ◌⊎◌, List, [], ◌∷◌, ◌++◌, get_or, sym, refl, ap, ◌∙◌, inl, inr, ⊎_elim, arith}
use lib.Utf8.{encode, next}
use Rattle.std.proofs.lemmas.Bool.{cond-true, cond-false, cases_lt, cases_eq, and_left, and_right, and_from, lt-leb, le-leb, ne_eqb, eq-eqb, le-ltb, lt-ltb}
use Rattle.text.specs.Reading.{loose, begins, marked}
use Rattle.text.specs.Laws.{surrogate, replaced}
use Rattle.text.proofs.Coding.{Shape, one_byte, two_bytes, three_bytes, four_bytes, shape}

-- which numbers are surrogates
pub no_surrogate : (c : ℕ) → (c < 55296) ⊎ (57344 ≤ c) → surrogate c ≡ false
no_surrogate c h = ⊎_elim (λ l. and_left _ _ (lt-leb 55296 c l)) (λ l. and_right _ _ (le-ltb c 57344 l)) h

is_surrogate : (c : ℕ) → 55296 ≤ c → c < 57344 → surrogate c ≡ true
is_surrogate c l h = and_from _ _ (le-leb 55296 c l) (lt-ltb c 57344 h)

-- what the readings make of a code point and what follows
abbrev pub Reads : ℕ → List ℕ → Type 0
Reads c rest = (loose (encode c ++ rest) ≡ encode (replaced c) ++ loose rest) × (marked (encode c ++ rest) ≡ (surrogate c || marked rest))

-- bytes that the readings leave as they are
abbrev Kept : List ℕ → List ℕ → Type 0
Kept p rest = (loose (p ++ rest) ≡ p ++ loose rest) × (marked (p ++ rest) ≡ marked rest)

-- one more such byte: it begins no surrogate
one_more : (b : ℕ) (p rest : List ℕ) → (b ≡ 237 → get_or (p ++ rest) 0 0 < 160) → Kept p rest → Kept (b ∷ p) rest
one_more b p rest h k = (cond-false _ _ _ none ∙ ap (λ l. b ∷ l) k.0, ap (λ t. t || marked (p ++ rest)) none ∙ k.1)
  where
    none : begins b (p ++ rest) ≡ false
    none = ⊎_elim (λ e. and_right _ _ (lt-leb 160 _ (h e))) (λ n. and_left _ _ (ne_eqb b 237 n)) (cases_eq b 237)

-- a code point that is no surrogate
kept : (c : ℕ) (rest p : List ℕ) → encode c ≡ p → surrogate c ≡ false → Kept p rest → Reads c rest
kept c rest p e s k = (
  ap (λ q. loose (q ++ rest)) e ∙ k.0 ∙ sym (ap (λ q. q ++ loose rest) (ap encode (cond-false _ _ _ s) ∙ e)),
  ap (λ q. marked (q ++ rest)) e ∙ k.1 ∙ sym (ap (λ t. t || marked rest) s),
)

replacement : encode 65533 ≡ 239 ∷ 191 ∷ 189 ∷ []
unfolding encode
replacement = refl

-- a surrogate
exchanged : (c a b d : ℕ) (rest : List ℕ) → encode c ≡ a ∷ b ∷ d ∷ [] → a ≡ 237 → 160 ≤ b → surrogate c ≡ true → Reads c rest
exchanged c a b d rest e p q s = (
  ap (λ r. loose (r ++ rest)) e ∙ cond-true _ _ _ there ∙ sym (ap (λ r. r ++ loose rest) (ap encode (cond-true _ _ _ s) ∙ replacement)),
  ap (λ r. marked (r ++ rest)) e ∙ ap (λ t. t || marked (b ∷ d ∷ rest)) there ∙ sym (ap (λ t. t || marked rest) s),
)
  where
    there : begins a (b ∷ d ∷ rest) ≡ true
    there = and_from _ _ (eq-eqb a 237 p) (le-leb 160 b q)

by_width : (c : ℕ) (rest : List ℕ) → Shape c → Reads c rest
by_width c rest (one_byte h e) = kept c rest (c ∷ []) e (no_surrogate c (inl (omega arith))) (one_more c [] rest (λ q. omega arith) (refl, refl))
by_width c rest (two_bytes l h e) =
    let a = 192 + c / 64 in
    let b = next c in
    kept c rest (a ∷ b ∷ []) e (no_surrogate c (inl (omega arith)))
    (one_more a (b ∷ []) rest (λ q. omega arith) (one_more b [] rest (λ q. omega arith) (refl, refl)))
by_width c rest (three_bytes l h e) = ⊎_elim (λ u. other (inl u)) (λ u. ⊎_elim (λ v. exchanged c (224 + c / 4096) (next (c / 64)) (next c) rest e (omega arith) (omega arith) (is_surrogate c u v)) (λ v. other (inr v)) (cases_lt c 57344)) (cases_lt c 55296)
  where
    other : (c < 55296) ⊎ (57344 ≤ c) → Reads c rest
    other u =
        let a = 224 + c / 4096 in
        let b = next (c / 64) in
        let d = next c in
        kept c rest (a ∷ b ∷ d ∷ []) e (no_surrogate c u)
        (one_more a (b ∷ d ∷ []) rest (λ q. ⊎_elim (λ v. omega arith) (λ v. omega arith) u) (one_more b (d ∷ []) rest (λ q. omega arith) (one_more d [] rest (λ q. omega arith) (refl, refl))))
by_width c rest (four_bytes l e) =
    let a = 240 + c / 262144 in
    let b = next (c / 4096) in
    let d = next (c / 64) in
    let f = next c in
    kept c rest (a ∷ b ∷ d ∷ f ∷ []) e (no_surrogate c (inr (omega arith)))
    (one_more a (b ∷ d ∷ f ∷ []) rest (λ q. omega arith) (one_more b (d ∷ f ∷ []) rest (λ q. omega arith) (one_more d (f ∷ []) rest (λ q. omega arith) (one_more f [] rest (λ q. omega arith) (refl, refl)))))

pub reads_point : (c : ℕ) (rest : List ℕ) → Reads c rest
reads_point c rest = by_width c rest (shape c)
