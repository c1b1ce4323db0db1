-- The readings by code points.
use Rattle.std.proofs.Common.{◌≡◌, ℕ, suc, ◌<◌, Bool, true, false, cond, ◌||◌, List, [], ◌∷◌, ◌++◌, map, length, is_some, Some, None, IsUtf8, Decides, sym, refl, ap, ◌∙◌, inl, inr, ⊎_elim}
use lib.Utf8.{encode, encodes, scalar, scalars, scalar_cases}
use Rattle.std.proofs.lemmas.Bool.{cond-true, cond-false, cond_both, and_parts, and_from, or_parts, or_from, ltb-true}
use Rattle.text.specs.Points.{points, Wtf8}
use Rattle.text.specs.Reading.{loose_after, loose, begins, marked, plain}
use Rattle.text.specs.Laws.{surrogate, replaced, any_surrogate, PlainByCodePoints, LooseByCodePoints}
use Rattle.text.proofs.Wellformed.{scalar_from}
use Rattle.text.proofs.OnePoint.{no_surrogate, reads_point}

loose_encodes : (cs : List ℕ) → loose (encodes cs) ≡ encodes (map replaced cs)
loose_encodes [] = refl
loose_encodes (c ∷ cs) = (reads_point c (encodes cs)).0 ∙ ap (λ l. encode (replaced c) ++ l) (loose_encodes cs)

marked_encodes : (cs : List ℕ) → marked (encodes cs) ≡ any_surrogate cs
marked_encodes [] = refl
marked_encodes (c ∷ cs) = (reads_point c (encodes cs)).1 ∙ ap (λ t. surrogate c || t) (marked_encodes cs)

-- a reading is as long as its text
length_after : (pending bs : List ℕ) → length (loose_after pending bs) ≡ length bs
length_after pending [] = refl
length_after (p ∷ pending) (b ∷ bs) = ap suc (length_after pending bs)
length_after [] (b ∷ bs) = cond_both (begins b bs) _ _ (λ l. length l ≡ suc (length bs)) (λ e. ap suc (length_after (191 ∷ 189 ∷ []) bs)) (λ e. ap suc (length_after [] bs))

pub length_loose : (bs : List ℕ) → length (loose bs) ≡ length bs
length_loose = length_after []

-- code points are scalar values where no surrogate is among them
scalars_from : (cs : List ℕ) → points cs ≡ true → any_surrogate cs ≡ false → scalars cs ≡ true
scalars_from [] p s = refl
scalars_from (c ∷ cs) p s =
    let h = and_parts _ _ p in
    let k = or_parts _ _ s in
    and_from _ _ (scalar_from c (ltb-true c 1114112 h.0) k.0) (scalars_from cs h.1 k.1)

none_among : (cs : List ℕ) → scalars cs ≡ true → any_surrogate cs ≡ false
none_among [] s = refl
none_among (c ∷ cs) s =
    let h = and_parts _ _ s in
    or_from _ _ (⊎_elim (λ l. no_surrogate c (inl l)) (λ l. no_surrogate c (inr l.0)) (scalar_cases c h.0)) (none_among cs h.1)

-- the plain reading
unmarked_from : (t : Bool) (bs : List ℕ) → is_some (cond t None (Some bs)) ≡ true → t ≡ false
unmarked_from true bs e = sym e
unmarked_from false bs e = refl

plain_text : (bs : List ℕ) → Wtf8 bs → Decides (is_some (plain bs)) (IsUtf8 bs)
plain_text bs w = (
  (λ e. (w.0, (scalars_from w.0 w.1.0 (sym (marked_encodes w.0) ∙ ap marked w.1.2 ∙ unmarked_from (marked bs) bs e), w.1.2))),
  λ u. ap is_some (cond-false _ _ _ (sym (ap marked u.1.1) ∙ marked_encodes u.0 ∙ none_among u.0 u.1.0)),
)

pub plain_by_code_points : PlainByCodePoints
plain_by_code_points = record { marks = marked_encodes; text = plain_text }

-- the loose reading
replaced_scalar : (c : ℕ) → c < 1114112 → scalar (replaced c) ≡ true
replaced_scalar c u = by (surrogate c) refl
  where
    by : (t : Bool) → surrogate c ≡ t → scalar (replaced c) ≡ true
    by true e = ap scalar (cond-true _ _ _ e)
    by false e = ap scalar (cond-false _ _ _ e) ∙ scalar_from c u e

replaced_scalars : (cs : List ℕ) → points cs ≡ true → scalars (map replaced cs) ≡ true
replaced_scalars [] p = refl
replaced_scalars (c ∷ cs) p = let h = and_parts _ _ p in and_from _ _ (replaced_scalar c (ltb-true c 1114112 h.0)) (replaced_scalars cs h.1)

loose_text_lem : (bs : List ℕ) → Wtf8 bs → IsUtf8 (loose bs)
loose_text_lem bs w = (map replaced w.0, (replaced_scalars w.0 w.1.0, sym (loose_encodes w.0) ∙ ap loose w.1.2))

pub loose_by_code_points : LooseByCodePoints
loose_by_code_points = record { replaces = loose_encodes; length_kept = length_loose; text = loose_text_lem }
