-- A text that ends so, and what comes before the ending.
use Rattle.std.proofs.Common.{◌≡◌, ℕ, ◌-◌, ◌<◌, Bool, true, false, List, ◌++◌, reverse, length, take, drop, refl, ap, sym, ◌∙◌, arith, true≢false}
use Rattle.std.specs.Bool.{Decides}
use Rattle.std.specs.Cmp.Lexicographic.{pointwise}
use Rattle.std.specs.Str.{bytes_eq}
use Rattle.std.proofs.Math.Dec.{eqb}
use Rattle.std.proofs.Math.Seq.{drop-append_seam, take-append_seam}
use Rattle.std.proofs.lemmas.Bool.{false_from_ne_true}
use Rattle.std.proofs.lemmas.Bool.Decides.{Decides-eqb}
use Rattle.std.proofs.lemmas.List.{length-append, take-append-drop}
use Rattle.std.proofs.lemmas.Slice.Eq.{bytes_eq-Decides, slice_eq-Decides}
use Rattle.paths.specs.Segments.{Segment, segments, text_of}
use Rattle.paths.proofs.Together.{AllWhole, text_of_names}

same_answer : {P Q : Type 0} (a b : Bool) → Decides a P → Decides b Q → (P → Q) → (Q → P) → a ≡ b
same_answer true true d e f g = refl
same_answer false false d e f g = refl
same_answer true false d e f g = sym (e.1 (f (d.0 refl)))
same_answer false true d e f g = d.1 (g (e.0 refl))

module _ (t ending r : List ℕ) where
  -- where the text is r with the ending, r is as long as what comes before the ending
  before_length : t ≡ r ++ ending → length t - length ending ≡ length r
  before_length e = let n = ap length e ∙ length-append r ending in omega arith

  pub ends_so : t ≡ r ++ ending → drop (length t - length ending) t ≡ ending
  ends_so e = ap (λ n. drop n t) (before_length e) ∙ ap (drop (length r)) e ∙ drop-append_seam r ending

  pub before_is : t ≡ r ++ ending → take (length t - length ending) t ≡ r
  before_is e = ap (λ n. take n t) (before_length e) ∙ ap (take (length r)) e ∙ take-append_seam r ending

ending_same : (a ending : List ℕ) (b : Bool) → pointwise eqb a ending ≡ b → Decides b (a ≡ ending)
ending_same a ending b e = slice_eq-Decides Decides-eqb a ending b (sym e)

module _ (t ending : List ℕ) (names : List Segment) (whole : AllWhole names) (some : 0 < length names) where
  abbrev before : List ℕ
  before = take (length t - length ending) t

  pub with_ending : (stem : List ℕ) (answer : Bool) → pointwise eqb (drop (length t - length ending) t) ending ≡ true → stem ≡ before → Decides answer (reverse (segments stem) ≡ names) → answer ≡ bytes_eq t (text_of (reverse names) ++ ending)
  with_ending stem answer ends is d =
      let r = text_of (reverse names) in
      let same = text_of_names names whole some stem in
      let last : drop (length t - length ending) t ≡ ending = (ending_same _ ending true ends).0 refl in
      same_answer answer (bytes_eq t (r ++ ending)) d (bytes_eq-Decides t (r ++ ending))
      (λ e. sym (take-append-drop (length t - length ending) t) ∙ ap (λ l. before ++ l) last ∙ ap (λ l. l ++ ending) (sym is ∙ same.0 e))
      (λ e. same.1 (is ∙ before_is t ending r e))

  pub without_ending : pointwise eqb (drop (length t - length ending) t) ending ≡ false → false ≡ bytes_eq t (text_of (reverse names) ++ ending)
  without_ending ends =
      let r = text_of (reverse names) in
      sym (false_from_ne_true (bytes_eq t (r ++ ending))
      (λ is. true≢false (sym ((ending_same _ ending false ends).1 (ends_so t ending r ((bytes_eq-Decides t (r ++ ending)).0 is))))))
