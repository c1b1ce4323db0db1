-- Texts and their segments: cut at a slash, and put together again.
use Rattle.std.proofs.Common.{◌≡◌, ◌≢◌, ℕ, suc, ◌+◌, ◌-◌, ◌<◌, ◌≤◌, Bool, true, false, List, [], ◌∷◌, ◌++◌, reverse, length, get_or, take, drop, drop-cons, refl, ap, sym, ◌∙◌, subst, arith}
use Rattle.std.specs.List.{All, onto_first}
use Rattle.std.proofs.lemmas.List.{get_or-drop, length-drop, length-reverse, reverse-append, take-append-drop, take_all}
use Rattle.std.proofs.lemmas.List.Elements.{All-from_get_or}
use Rattle.std.proofs.lemmas.List.Sums.{count_by-le-length}
use Rattle.std.proofs.lemmas.Bool.{ne_eqb}
use Rattle.std.proofs.lemmas.List.Splits.{slice_split-cons_yes, slice_split-cons_no, slice_split_none, length-slice_split}
use Rattle.paths.specs.Segments.{Segment, is_slash, segments}

onto_first-append : (x : ℕ) (ls ms : List Segment) → 0 < length ls → onto_first x (ls ++ ms) ≡ onto_first x ls ++ ms
onto_first-append x [] ms h = absurd (omega arith)
onto_first-append x (l ∷ ls) ms h = refl

some_segment : (text : List ℕ) → 0 < length (segments text)
some_segment text = omega (arith, length-slice_split is_slash text)

cut_by : (x : ℕ) (a b : List ℕ) (t : Bool) → is_slash x ≡ t → segments (a ++ 47 ∷ b) ≡ segments a ++ segments b → segments (x ∷ (a ++ 47 ∷ b)) ≡ segments (x ∷ a) ++ segments b
cut_by x a b true e h =
    slice_split-cons_yes is_slash x (a ++ 47 ∷ b) e ∙ ap (λ ls. [] ∷ ls) h ∙ ap (λ ls. ls ++ segments b) (sym (slice_split-cons_yes is_slash x a e))
cut_by x a b false e h =
    slice_split-cons_no is_slash x (a ++ 47 ∷ b) e ∙ ap (onto_first x) h ∙ onto_first-append x (segments a) (segments b) (some_segment a)
    ∙ ap (λ ls. ls ++ segments b) (sym (slice_split-cons_no is_slash x a e))

-- a text that is cut at a slash
pub segments-cut : (a b : List ℕ) → segments (a ++ 47 ∷ b) ≡ segments a ++ segments b
segments-cut [] b = slice_split-cons_yes is_slash 47 b refl
segments-cut (x ∷ a) b = cut_by x a b (is_slash x) refl (segments-cut a b)

-- the same, the last segment first
pub backwards-cut : (a b : List ℕ) → All (λ x. is_slash x ≡ false) b → reverse (segments (a ++ 47 ∷ b)) ≡ b ∷ reverse (segments a)
backwards-cut a b none = ap reverse (segments-cut a b ∙ ap (λ ls. segments a ++ ls) (slice_split_none is_slash b none)) ∙ reverse-append (segments a) (b ∷ [])

pub backwards-whole : (b : List ℕ) → All (λ x. is_slash x ≡ false) b → reverse (segments b) ≡ b ∷ []
backwards-whole b none = ap reverse (slice_split_none is_slash b none)

no_slash : (t : List ℕ) (s : ℕ) → ((k : ℕ) → s ≤ k → k < length t → get_or t k 0 ≢ 47) → All (λ x. is_slash x ≡ false) (drop s t)
no_slash t s none =
    All-from_get_or (λ x. is_slash x ≡ false) (drop s t) 0
    (λ i h.
    let k : s + i < length t = omega (arith, length-drop s t) in
    ne_eqb (get_or (drop s t) i 0) 47 (λ e. none (s + i) (omega arith) k (sym (get_or-drop s t i 0) ∙ e)))

to_end : (t : List ℕ) (s : ℕ) → take (length t - s) (drop s t) ≡ drop s t
to_end t s = take_all (length t - s) (drop s t) (omega (arith, length-drop s t))

-- where the last segment begins at the start, the text is that segment
pub whole_last : (t : List ℕ) (s : ℕ) → s ≡ 0 → ((k : ℕ) → s ≤ k → k < length t → get_or t k 0 ≢ 47) → reverse (segments t) ≡ take (length t - s) (drop s t) ∷ []
whole_last t s z none =
    let all : All (λ x. is_slash x ≡ false) (drop s t) = no_slash t s none in
    let e : drop s t ≡ t = ap (λ n. drop n t) z in
    backwards-whole t (subst (All (λ x. is_slash x ≡ false)) e all) ∙ ap (λ l. l ∷ []) (sym (to_end t s ∙ e))

-- where it begins after a slash, the other segments are those before the slash
pub cut_at : (t : List ℕ) (s : ℕ) → 0 < s → s ≤ length t → ((k : ℕ) → s ≤ k → k < length t → get_or t k 0 ≢ 47) → get_or t (s - 1) 0 ≡ 47 → reverse (segments t) ≡ take (length t - s) (drop s t) ∷ reverse (segments (take (s - 1) t))
cut_at t s some within none slash =
    let n : suc (s - 1) ≡ s = omega arith in
    let d : drop (s - 1) t ≡ 47 ∷ drop s t = drop-cons t (s - 1) 0 (omega arith) ∙ ap (λ x. x ∷ drop (suc (s - 1)) t) slash ∙ ap (λ m. 47 ∷ drop m t) n in
    let e : take (s - 1) t ++ 47 ∷ drop s t ≡ t = ap (λ l. take (s - 1) t ++ l) (sym d) ∙ take-append-drop (s - 1) t in
    ap (λ l. reverse (segments l)) (sym e) ∙ backwards-cut (take (s - 1) t) (drop s t) (no_slash t s none) ∙ ap (λ l. l ∷ reverse (segments (take (s - 1) t))) (sym (to_end t s))

-- a text has at most one segment more than it has bytes
pub few_segments : (t : List ℕ) → length (reverse (segments t)) ≤ length t + 1
few_segments t = omega (arith, length-reverse (segments t), length-slice_split is_slash t, count_by-le-length is_slash t)
