-- Segments put together with slashes between them, and cut again.
use Rattle.std.proofs.Common.{◌≡◌, ◌↔◌, ℕ, zero, suc, ◌+◌, ◌-◌, ◌<◌, eqb, Bool, true, false, cond, List, [], ◌∷◌, ◌++◌, reverse, length, drop, refl, ap, sym, ◌∙◌, subst, arith}
use Rattle.std.specs.List.{All, onto_first}
use Rattle.std.proofs.lemmas.List.{reverse-append, reverse-reverse, length-reverse}
use Rattle.std.proofs.lemmas.List.Splits.{join_with_byte-slice_split, slice_split-cons_no, slice_split-cons_yes, slice_split_at, slice_split_none}
use Rattle.paths.specs.Segments.{Segment, is_dot, is_dots, is_slash, segments, text_of}
use Rattle.paths.specs.Backwards.{lasting}

-- no segment has a slash in it
abbrev pub Whole : Segment → Type 0
Whole s = All (λ x. is_slash x ≡ false) s

abbrev pub AllWhole : List Segment → Type 0
AllWhole [] = Unit {0}
AllWhole (s ∷ ss) = Whole s × AllWhole ss

whole_more : (x : ℕ) (s : Segment) → is_slash x ≡ false → Whole s → Whole (x ∷ s)
whole_more x s e h zero d lt = e
whole_more x s e h (suc k) d lt = h k d (omega arith)

append_whole : (ss ts : List Segment) → AllWhole ss → AllWhole ts → AllWhole (ss ++ ts)
append_whole [] ts h g = g
append_whole (s ∷ ss) ts h g = (h.0, append_whole ss ts h.1 g)

pub reverse_whole : (ss : List Segment) → AllWhole ss → AllWhole (reverse ss)
reverse_whole [] h = tt
reverse_whole (s ∷ ss) h = subst AllWhole (sym (reverse-append (s ∷ []) ss)) (append_whole (reverse ss) (s ∷ []) (reverse_whole ss h.1) (h.0, tt))

drop_whole : (n : ℕ) (ss : List Segment) → AllWhole ss → AllWhole (drop n ss)
drop_whole zero ss h = h
drop_whole (suc n) [] h = tt
drop_whole (suc n) (s ∷ ss) h = drop_whole n ss h.1

onto_whole : (x : ℕ) (ss : List Segment) → is_slash x ≡ false → AllWhole ss → AllWhole (onto_first x ss)
onto_whole x [] e h = (whole_more x [] e (λ k d lt. absurd (omega arith)), tt)
onto_whole x (s ∷ ss) e h = (whole_more x s e h.0, h.1)

segments_whole_by : (x : ℕ) (t : List ℕ) (b : Bool) → is_slash x ≡ b → AllWhole (segments t) → AllWhole (segments (x ∷ t))
segments_whole_by x t true e h = subst AllWhole (sym (slice_split-cons_yes is_slash x t e)) ((λ k d lt. absurd (omega arith)), h)
segments_whole_by x t false e h = subst AllWhole (sym (slice_split-cons_no is_slash x t e)) (onto_whole x (segments t) e h)

pub segments_whole : (t : List ℕ) → AllWhole (segments t)
segments_whole [] = ((λ k d lt. absurd (omega arith)), tt)
segments_whole (x ∷ t) = segments_whole_by x t (is_slash x) refl (segments_whole t)

pub backwards_whole : (t : List ℕ) → AllWhole (reverse (segments t))
backwards_whole t = reverse_whole (segments t) (segments_whole t)

module _ (base : List Segment) (base_whole : AllWhole base) where
  lasting_by : (d u z : Bool) (s : Segment) (ls ms ns ks : List Segment) → Whole s → AllWhole ls → AllWhole ms → AllWhole ns → AllWhole ks → AllWhole (cond d ls (cond u ms (cond z (s ∷ ns) ks)))
  lasting_by true u z s ls ms ns ks w l m n k = l
  lasting_by false true z s ls ms ns ks w l m n k = m
  lasting_by false false true s ls ms ns ks w l m n k = (w, n)
  lasting_by false false false s ls ms ns ks w l m n k = k

  pub lasting_whole : (rs : List Segment) → AllWhole rs → (up : ℕ) → AllWhole (lasting base up rs)
  lasting_whole [] h up = drop_whole up base base_whole
  lasting_whole (s ∷ rs) h up =
      lasting_by (is_dot s) (is_dots s) (eqb up 0) s _ _ _ _ h.0 (lasting_whole rs h.1 up) (lasting_whole rs h.1 (up + 1)) (lasting_whole rs h.1 0) (lasting_whole rs h.1 (up - 1))

-- segments put together are cut into the same segments
pub segments-text_of : (ss : List Segment) → AllWhole ss → 0 < length ss → segments (text_of ss) ≡ ss
segments-text_of [] h some = absurd (omega arith)
segments-text_of (s ∷ []) h some = slice_split_none is_slash s h.0
segments-text_of (s ∷ r ∷ ss) h some =
    slice_split_at is_slash s 47 (text_of (r ∷ ss)) h.0 refl ∙ ap (λ l. s ∷ l) (segments-text_of (r ∷ ss) h.1 (omega arith))

-- a text has these names, the last one first, exactly when it is their text
pub text_of_names : (names : List Segment) → AllWhole names → 0 < length names → (t : List ℕ) → (reverse (segments t) ≡ names) ↔ (t ≡ text_of (reverse names))
text_of_names names whole some t = (
  (λ e. sym (join_with_byte-slice_split 47 t) ∙ ap text_of (sym (reverse-reverse (segments t)) ∙ ap reverse e)),
  λ e.
      let w = reverse_whole names whole in
      let z : 0 < length (reverse names) = omega (arith, length-reverse names) in
      ap (λ l. reverse (segments l)) e ∙ ap reverse (segments-text_of (reverse names) w z) ∙ reverse-reverse names,
)
