-- The rows of a section by their numbers.
use Rattle.std.proofs.Common.{◌≡◌, ℕ, zero, suc, ◌+◌, ◌-◌, ◌*◌, ◌/◌, ◌<◌, ◌≤◌, List, [], length, get_or, take, drop, mul-zero, refl, sym, ap, ◌∙◌, arith}
use Rattle.std.specs.Prelude.{MatchOption, Some, None, Option}
use Rattle.std.specs.List.{slice_range}
use Rattle.std.specs.Simd.{first_chunks}
use Rattle.std.specs.Slice.{IsItemAt}
use denote.Ref.{Bor}
use Rattle.std.proofs.Math.Seq.{drop-drop}
use Rattle.std.proofs.lemmas.List.FromFn.{length-map-range_with_len, get_or-map-range_with_len}
use Rattle.std.proofs.lemmas.List.{get_or-drop, get_or-map, get_or-take, get_or_past, length-map, same_lists}
use Rattle.text.specs.Number.{le32}
use Rattle.text.specs.Place.{stretch}
use Rattle.tree.specs.declared.row.Row.{Row}
use Rattle.tree.specs.Block.{row_in, rows_from, rows_in}
use Rattle.tree.specs.Forest.{row_at, blank}

pub length_rows : (section : List ℕ) (n : ℕ) → length (rows_in section n) ≡ n
unfolding rows_in
length_rows section n = length-map-range_with_len (λ j. row_in section (20 * j)) 0 n

pub counted : (rows : List (List ℕ)) → length (rows_from rows) ≡ length rows
unfolding rows_from
counted rows = length-map rows (λ bytes. row_in bytes 0)

pub row_from : (rows : List (List ℕ)) (j : ℕ) (d : List ℕ) → j < length rows → row_at (rows_from rows) j ≡ row_in (get_or rows j d) 0
unfolding rows_from
row_from rows j d h = get_or-map (λ bytes. row_in bytes 0) rows j d blank h

pub row_past : (rows : List (List ℕ)) (j : ℕ) → length rows ≤ j → row_at (rows_from rows) j ≡ blank
row_past rows j h = get_or_past (rows_from rows) j blank (omega (arith, counted rows))

-- a row is read from its bytes, or is the row of zeros where there are none
pub row_read : (rows : List (List ℕ)) (j : ℕ) (o : Option (Bor (List ℕ))) (zeros r : Row) (P : Bor (List ℕ) → Type 0) → IsItemAt rows j o → MatchOption o (r ≡ zeros) P → zeros ≡ blank → ((x : Bor (List ℕ)) → P x → r ≡ row_in x.now 0) → r ≡ row_at (rows_from rows) j
row_read rows j None zeros r P h e z f = e ∙ z ∙ sym (row_past rows j h.3)
row_read rows j (Some x) zeros r P h e z f =
    let is : x.now ≡ get_or rows j [] = h.4 (omega arith) [] in
    f x e ∙ ap (λ bytes. row_in bytes 0) is ∙ sym (row_from rows j [] h.3.0)

length_chunks : (k : ℕ) (xs : List ℕ) → length (first_chunks 20 k xs) ≡ k
length_chunks zero xs = refl
length_chunks (suc k) xs = ap suc (length_chunks k (drop 20 xs))

chunk_at : (w k : ℕ) (xs : List ℕ) (j : ℕ) (d : List ℕ) → j < k → get_or (first_chunks w k xs) j d ≡ take w (drop (w * j) xs)
chunk_at w zero xs j d h = absurd (omega arith)
chunk_at w (suc k) xs zero d h = ap (λ o. take w (drop o xs)) (sym (mul-zero w))
chunk_at w (suc k) xs (suc j) d h =
    let e : w + w * j ≡ w * suc j = omega arith in
    chunk_at w k (drop w xs) j d (omega arith) ∙ ap (take w) (drop-drop (w * j) w xs) ∙ ap (λ o. take w (drop o xs)) e

byte_at : (w : ℕ) (xs : List ℕ) (o q k : ℕ) → q < w → o + q ≡ k → get_or (take w (drop o xs)) q 0 ≡ get_or xs k 0
byte_at w xs o q k h e = get_or-take w (drop o xs) q 0 h ∙ get_or-drop o xs q 0 ∙ ap (λ i. get_or xs i 0) e

number_at : (w : ℕ) (xs : List ℕ) (o q k : ℕ) → q + 3 < w → o + q ≡ k → le32 (take w (drop o xs)) q ≡ le32 xs k
number_at w xs o q k h e =
    let a = byte_at w xs o q k (omega arith) e in
    let b = byte_at w xs o (q + 1) (k + 1) (omega arith) (omega arith) in
    let c = byte_at w xs o (q + 2) (k + 2) (omega arith) (omega arith) in
    let d = byte_at w xs o (q + 3) (k + 3) (omega arith) (omega arith) in
    λ i. a i + b i * 256 + c i * 65536 + d i * 16777216

-- a number of the header, from the four bytes that it is read from
pub number_from : (xs : List ℕ) (chunks : List (List ℕ)) (k j n : ℕ) → chunks ≡ first_chunks 4 k xs → j < k → n ≡ le32 (get_or chunks j []) 0 → n ≡ le32 xs (4 * j)
number_from xs chunks k j n front h is = is ∙ ap (λ l. le32 l 0) (ap (λ l. get_or l j []) front ∙ chunk_at 4 k xs j [] h) ∙ number_at 4 xs (4 * j) 0 (4 * j) (omega arith) (omega arith)

row_cut : (xs : List ℕ) (o : ℕ) → row_in (take 20 (drop o xs)) 0 ≡ row_in xs o
row_cut xs o =
    let a = number_at 20 xs o 0 o (omega arith) (omega arith) in
    let b = number_at 20 xs o 4 (o + 4) (omega arith) refl in
    let c = number_at 20 xs o 8 (o + 8) (omega arith) refl in
    let d = number_at 20 xs o 12 (o + 12) (omega arith) refl in
    let e = number_at 20 xs o 16 (o + 16) (omega arith) refl in
    λ i. record { kind = a i; mark = b i; offset = c i; length = d i; end = e i }

-- the rows of a section cut into twenty bytes each are those of the section
pub rows_cut : (section : List ℕ) (n : ℕ) → rows_from (first_chunks 20 n section) ≡ rows_in section n
unfolding rows_from rows_in
rows_cut section n =
    let cut = first_chunks 20 n section in
    let l = length_chunks n section in
    same_lists _ _ (length-map cut (λ bytes. row_in bytes 0) ∙ l ∙ sym (length_rows section n))
    (λ k d h.
    let i : k < n = omega (arith, length-map cut (λ bytes. row_in bytes 0)) in
    get_or-map (λ bytes. row_in bytes 0) cut k [] d (omega arith)
    ∙ ap (λ bytes. row_in bytes 0) (chunk_at 20 n section k [] i)
    ∙ row_cut section (20 * k)
    ∙ sym (get_or-map-range_with_len (λ j. row_in section (20 * j)) 0 n k k d i (omega arith)))

pub cut : (bs : List ℕ) (a n from count : ℕ) → a ≡ from → n ≡ count → slice_range bs a (a + n) ≡ stretch bs from count
cut bs a n from count e f =
    let l : (a + n) - a ≡ n = omega arith in
    ap (λ k. take k (drop a bs)) l ∙ (λ i. take (f i) (drop (e i) bs))

pub rows_cut_from : (section part : List ℕ) (bytes : List (List ℕ)) (n : ℕ) → bytes ≡ first_chunks 20 (length section / 20) section → section ≡ part → length section ≡ n → rows_from bytes ≡ rows_in part (n / 20)
rows_cut_from section part bytes n e same l = ap rows_from e ∙ rows_cut section (length section / 20) ∙ (λ i. rows_in (same i) (l i / 20))
