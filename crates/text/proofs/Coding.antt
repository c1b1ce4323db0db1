-- The bytes that encode a code point, by their ranges: bytes in the ranges encode one, and no other bytes do.
use Rattle.std.proofs.Common.{◌≡◌, ℕ, ◌+◌, ◌-◌, ◌*◌, ◌/◌, ◌%◌, ◌<◌, ◌≤◌, List, [], ◌∷◌, ◌++◌, length, get_or, Bool, Decides, Some, Ok, sym, ap, ◌∙◌, ⊎_elim, arith}
use lib.ListN.{take, drop}
use lib.Seq.{take_all}
use lib.Utf8.{encode, next}
use Rattle.std.proofs.lemmas.Bool.{cond-true, cond-false, lt-ltb, le-ltb, cases_lt}
use Rattle.std.proofs.lemmas.Str.{encode_ascii}
use Rattle.std.specs.Int.{IsInRange}
use Rattle.text.specs.Points.{OnePoint, NoPoint, Leads}

encode_two : (n : ℕ) → 128 ≤ n → n < 2048 → encode n ≡ (192 + n / 64) ∷ next n ∷ []
unfolding encode
encode_two n l h = cond-false _ _ _ (le-ltb n 128 l) ∙ cond-true _ _ _ (lt-ltb n 2048 h)

encode_three : (n : ℕ) → 2048 ≤ n → n < 65536 → encode n ≡ (224 + n / 4096) ∷ next (n / 64) ∷ next n ∷ []
unfolding encode
encode_three n l h = cond-false _ _ _ (le-ltb n 128 (omega arith)) ∙ cond-false _ _ _ (le-ltb n 2048 l) ∙ cond-true _ _ _ (lt-ltb n 65536 h)

encode_four : (n : ℕ) → 65536 ≤ n → encode n ≡ (240 + n / 262144) ∷ next (n / 4096) ∷ next (n / 64) ∷ next n ∷ []
unfolding encode
encode_four n l = cond-false _ _ _ (le-ltb n 128 (omega arith)) ∙ cond-false _ _ _ (le-ltb n 2048 (omega arith)) ∙ cond-false _ _ _ (le-ltb n 65536 l)

-- the encoding of a code point, by its width
pub data Shape (n : ℕ) : Type 0 where
  one_byte : n < 128 → encode n ≡ n ∷ [] → Shape n
  two_bytes : 128 ≤ n → n < 2048 → encode n ≡ (192 + n / 64) ∷ next n ∷ [] → Shape n
  three_bytes : 2048 ≤ n → n < 65536 → encode n ≡ (224 + n / 4096) ∷ next (n / 64) ∷ next n ∷ [] → Shape n
  four_bytes : 65536 ≤ n → encode n ≡ (240 + n / 262144) ∷ next (n / 4096) ∷ next (n / 64) ∷ next n ∷ [] → Shape n

pub shape : (n : ℕ) → Shape n
shape n = ⊎_elim (λ h. one_byte h (encode_ascii n h)) (λ l. ⊎_elim (λ h. two_bytes l h (encode_two n l h)) (λ m. ⊎_elim (λ h. three_bytes m h (encode_three n m h)) (λ k. four_bytes k (encode_four n k)) (cases_lt n 65536)) (cases_lt n 2048)) (cases_lt n 128)

-- the bytes that encode a code point in two, three and four bytes, by their ranges
abbrev pub Two : ℕ → ℕ → Type 0
Two a b = IsInRange 0xC2 0xDF a × IsInRange 0x80 0xBF b

abbrev pub Three : ℕ → ℕ → ℕ → Type 0
Three a b c = IsInRange 0xE0A0 0xEFBF (a * 256 + b) × IsInRange 0x80 0xBF b × IsInRange 0x80 0xBF c

abbrev pub Four : ℕ → ℕ → ℕ → ℕ → Type 0
Four a b c d = IsInRange 0xF090 0xF48F (a * 256 + b) × IsInRange 0x80 0xBF b × IsInRange 0x80 0xBF c × IsInRange 0x80 0xBF d

-- their code points
abbrev pub two : ℕ → ℕ → ℕ
two a b = a % 32 * 64 + b % 64

abbrev pub three : ℕ → ℕ → ℕ → ℕ
three a b c = (a % 16 * 64 + b % 64) * 64 + c % 64

abbrev pub four : ℕ → ℕ → ℕ → ℕ → ℕ
four a b c d = ((a % 8 * 64 + b % 64) * 64 + c % 64) * 64 + d % 64

two_read : (a b n : ℕ) → n < 1114112 → encode n ≡ a ∷ b ∷ [] → Two a b × (n ≡ two a b)
two_read a b n u e = by (shape n)
  where
    by : Shape n → Two a b × (n ≡ two a b)
    by (one_byte h k) = absurd (omega (arith, ap length (sym e ∙ k)))
    by (two_bytes l h k) =
        let p = ap (λ l. get_or l 0 0) (sym e ∙ k) in
        let q = ap (λ l. get_or l 1 0) (sym e ∙ k) in
        (((omega arith, omega arith), (omega arith, omega arith)), omega arith)
    by (three_bytes l h k) = absurd (omega (arith, ap length (sym e ∙ k)))
    by (four_bytes l k) = absurd (omega (arith, ap length (sym e ∙ k)))

three_read : (a b c n : ℕ) → n < 1114112 → encode n ≡ a ∷ b ∷ c ∷ [] → Three a b c × (n ≡ three a b c)
three_read a b c n u e = by (shape n)
  where
    by : Shape n → Three a b c × (n ≡ three a b c)
    by (one_byte h k) = absurd (omega (arith, ap length (sym e ∙ k)))
    by (two_bytes l h k) = absurd (omega (arith, ap length (sym e ∙ k)))
    by (three_bytes l h k) =
        let p = ap (λ l. get_or l 0 0) (sym e ∙ k) in
        let q = ap (λ l. get_or l 1 0) (sym e ∙ k) in
        let r = ap (λ l. get_or l 2 0) (sym e ∙ k) in
        (((omega arith, omega arith), (omega arith, omega arith), (omega arith, omega arith)), omega arith)
    by (four_bytes l k) = absurd (omega (arith, ap length (sym e ∙ k)))

four_read : (a b c d n : ℕ) → n < 1114112 → encode n ≡ a ∷ b ∷ c ∷ d ∷ [] → Four a b c d × (n ≡ four a b c d)
four_read a b c d n u e = by (shape n)
  where
    by : Shape n → Four a b c d × (n ≡ four a b c d)
    by (one_byte h k) = absurd (omega (arith, ap length (sym e ∙ k)))
    by (two_bytes l h k) = absurd (omega (arith, ap length (sym e ∙ k)))
    by (three_bytes l h k) = absurd (omega (arith, ap length (sym e ∙ k)))
    by (four_bytes l k) =
        let p = ap (λ l. get_or l 0 0) (sym e ∙ k) in
        let q = ap (λ l. get_or l 1 0) (sym e ∙ k) in
        let r = ap (λ l. get_or l 2 0) (sym e ∙ k) in
        let s = ap (λ l. get_or l 3 0) (sym e ∙ k) in
        (((omega arith, omega arith), (omega arith, omega arith), (omega arith, omega arith), (omega arith, omega arith)), omega arith)

two_encodes : (a b : ℕ) → Two a b → OnePoint (a ∷ b ∷ [])
two_encodes a b h =
    let n = two a b in
    let p : 192 + n / 64 ≡ a = omega arith in
    let q : next n ≡ b = omega arith in
    (n, (omega arith), encode_two n (omega arith) (omega arith) ∙ (λ i. p i ∷ q i ∷ []))

three_encodes : (a b c : ℕ) → Three a b c → OnePoint (a ∷ b ∷ c ∷ [])
three_encodes a b c h =
    let n = three a b c in
    let m : n / 64 ≡ a % 16 * 64 + b % 64 = omega arith in
    let p : 224 + n / 4096 ≡ a = omega arith in
    let q : next (n / 64) ≡ b = ap next m ∙ (omega arith) in
    let r : next n ≡ c = omega arith in
    (n, (omega arith), encode_three n (omega arith) (omega arith) ∙ (λ i. p i ∷ q i ∷ r i ∷ []))

four_encodes : (a b c d : ℕ) → Four a b c d → OnePoint (a ∷ b ∷ c ∷ d ∷ [])
four_encodes a b c d h =
    let n = four a b c d in
    let o : n / 4096 ≡ a % 8 * 64 + b % 64 = omega arith in
    let m : n / 64 ≡ (a % 8 * 64 + b % 64) * 64 + c % 64 = omega arith in
    let p : 240 + n / 262144 ≡ a = omega arith in
    let q : next (n / 4096) ≡ b = ap next o ∙ (omega arith) in
    let r : next (n / 64) ≡ c = ap next m ∙ (omega arith) in
    let s : next n ≡ d = omega arith in
    (n, (omega arith), encode_four n (omega arith) ∙ (λ i. p i ∷ q i ∷ r i ∷ s i ∷ []))

-- a test of the ranges decides whether the bytes encode a code point
pub two_decides : (r : Bool) (a b : ℕ) → Decides r (Two a b) → Decides r (OnePoint (a ∷ b ∷ []))
two_decides r a b t = ((λ e. two_encodes a b (t.0 e)), λ w. t.1 (two_read a b w.0 w.1 w.2).0)

pub three_decides : (r : Bool) (a b c : ℕ) → Decides r (Three a b c) → Decides r (OnePoint (a ∷ b ∷ c ∷ []))
three_decides r a b c t = ((λ e. three_encodes a b c (t.0 e)), λ w. t.1 (three_read a b c w.0 w.1 w.2).0)

pub four_decides : (r : Bool) (a b c d : ℕ) → Decides r (Four a b c d) → Decides r (OnePoint (a ∷ b ∷ c ∷ d ∷ []))
four_decides r a b c d t = ((λ e. four_encodes a b c d (t.0 e)), λ w. t.1 (four_read a b c d w.0 w.1 w.2).0)

-- bytes that begin with the bytes of a code point
pub two_begin : (bs : List ℕ) (n : ℕ) → 2 ≤ length bs → OnePoint (get_or bs 0 0 ∷ get_or bs 1 0 ∷ []) → n ≡ two (get_or bs 0 0) (get_or bs 1 0) → Leads bs (Some (Ok n)) (take (length bs - 2) (drop 2 bs))
two_begin [] n l w e = absurd (omega arith)
two_begin (a ∷ []) n l w e = absurd (omega arith)
two_begin (a ∷ b ∷ t) n l w e =
    let same : n ≡ w.0 = e ∙ sym (two_read a b w.0 w.1 w.2).1 in
    let all : take (length (a ∷ b ∷ t) - 2) t ≡ t = take_all _ t (omega arith) in
    (omega arith, sym ((λ i. encode (same i) ++ all i) ∙ ap (λ p. p ++ t) w.2))

pub three_begin : (bs : List ℕ) (n : ℕ) → 3 ≤ length bs → OnePoint (get_or bs 0 0 ∷ get_or bs 1 0 ∷ get_or bs 2 0 ∷ []) → n ≡ three (get_or bs 0 0) (get_or bs 1 0) (get_or bs 2 0) → Leads bs (Some (Ok n)) (take (length bs - 3) (drop 3 bs))
three_begin [] n l w e = absurd (omega arith)
three_begin (a ∷ []) n l w e = absurd (omega arith)
three_begin (a ∷ b ∷ []) n l w e = absurd (omega arith)
three_begin (a ∷ b ∷ c ∷ t) n l w e =
    let same : n ≡ w.0 = e ∙ sym (three_read a b c w.0 w.1 w.2).1 in
    let all : take (length (a ∷ b ∷ c ∷ t) - 3) t ≡ t = take_all _ t (omega arith) in
    (omega arith, sym ((λ i. encode (same i) ++ all i) ∙ ap (λ p. p ++ t) w.2))

pub four_begin : (bs : List ℕ) (n : ℕ) → 4 ≤ length bs → OnePoint (get_or bs 0 0 ∷ get_or bs 1 0 ∷ get_or bs 2 0 ∷ get_or bs 3 0 ∷ []) → n ≡ four (get_or bs 0 0) (get_or bs 1 0) (get_or bs 2 0) (get_or bs 3 0) → Leads bs (Some (Ok n)) (take (length bs - 4) (drop 4 bs))
four_begin [] n l w e = absurd (omega arith)
four_begin (a ∷ []) n l w e = absurd (omega arith)
four_begin (a ∷ b ∷ []) n l w e = absurd (omega arith)
four_begin (a ∷ b ∷ c ∷ []) n l w e = absurd (omega arith)
four_begin (a ∷ b ∷ c ∷ d ∷ t) n l w e =
    let same : n ≡ w.0 = e ∙ sym (four_read a b c d w.0 w.1 w.2).1 in
    let all : take (length (a ∷ b ∷ c ∷ d ∷ t) - 4) t ≡ t = take_all _ t (omega arith) in
    (omega arith, sym ((λ i. encode (same i) ++ all i) ∙ ap (λ p. p ++ t) w.2))

-- where none of the four widths stands, no code point begins
pub none_begins : (bs : List ℕ)
    → 128 ≤ get_or bs 0 0
    → (2 ≤ length bs → ¬ (OnePoint (get_or bs 0 0 ∷ get_or bs 1 0 ∷ [])))
    → (3 ≤ length bs → ¬ (OnePoint (get_or bs 0 0 ∷ get_or bs 1 0 ∷ get_or bs 2 0 ∷ [])))
    → (4 ≤ length bs → ¬ (OnePoint (get_or bs 0 0 ∷ get_or bs 1 0 ∷ get_or bs 2 0 ∷ get_or bs 3 0 ∷ [])))
    → NoPoint bs
none_begins bs h1 h2 h3 h4 n rest u e = by (shape n)
  where
    by : Shape n → ⊥
    by (one_byte h k) = omega (arith, ap (λ l. get_or l 0 0) (e ∙ ap (λ p. p ++ rest) k))
    by (two_bytes l h k) = let q = e ∙ ap (λ p. p ++ rest) k in h2 (omega (arith, ap length q)) (n, u, k ∙ sym (ap (λ l. get_or l 0 0 ∷ get_or l 1 0 ∷ []) q))
    by (three_bytes l h k) = let q = e ∙ ap (λ p. p ++ rest) k in h3 (omega (arith, ap length q)) (n, u, k ∙ sym (ap (λ l. get_or l 0 0 ∷ get_or l 1 0 ∷ get_or l 2 0 ∷ []) q))
    by (four_bytes l k) = let q = e ∙ ap (λ p. p ++ rest) k in h4 (omega (arith, ap length q)) (n, u, k ∙ sym (ap (λ l. get_or l 0 0 ∷ get_or l 1 0 ∷ get_or l 2 0 ∷ get_or l 3 0 ∷ []) q))
