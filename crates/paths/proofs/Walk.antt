-- Segments taken in one after the other come to the names that last, read from the end.
use Rattle.std.proofs.Common.{◌≡◌, ℕ, zero, suc, ◌+◌, ◌-◌, ◌<◌, ◌⊎◌, inl, inr, Bool, true, false, cond, eqb, leb, List, [], ◌∷◌, ◌++◌, reverse, length, drop, Some, None, refl, ap, sym, ◌∙◌, arith, add-one, true≢false}
use Rattle.std.specs.List.{fold}
use Rattle.std.proofs.Math.Dec.{leb-suc-suc, leb-suc-zero, leb-zero}
use Rattle.std.proofs.lemmas.Bool.{ne_eqb}
use Rattle.std.proofs.lemmas.List.{reverse-append}
use Rattle.paths.specs.Segments.{Segment, is_dot, is_dots, is_empty, segments}
use Rattle.paths.specs.Join.{Held, folder, is_relative, join, others, some_names, take_in, without_last}
use Rattle.paths.specs.Backwards.{lasting, stays}

-- the same walk over segments that come the last one first
abbrev walk_from : Held → List Segment → Held
walk_from held [] = held
walk_from held (segment ∷ before) = take_in (walk_from held before) segment

walk_first : (held : Held) (x : Segment) (ys : List Segment) → walk_from held (ys ++ x ∷ []) ≡ walk_from (take_in held x) ys
walk_first held x [] = refl
walk_first held x (y ∷ ys) = ap (λ h. take_in h y) (walk_first held x ys)

fold_walk : (held : Held) (xs : List Segment) → fold take_in held xs ≡ walk_from held (reverse xs)
fold_walk held [] = refl
fold_walk held (x ∷ xs) = fold_walk (take_in held x) xs ∙ sym (walk_first held x (reverse xs)) ∙ ap (walk_from held) (sym (reverse-append (x ∷ []) xs))

-- what is held, where so many of its names are still to be taken off
abbrev AgreesWith : Held → ℕ → Bool → List Segment → Type 0
AgreesWith None up stay names = stay ≡ false
AgreesWith (Some held) up stay names = (stay ≡ leb up (length held)) × (names ≡ drop up held)

none_by : (e d u : Bool) (x y z : Bool) → x ≡ false → y ≡ false → z ≡ false → cond e false (cond d x (cond u y z)) ≡ false
none_by true d u x y z p q r = refl
none_by false true u x y z p q r = p
none_by false false true x y z p q r = q
none_by false false false x y z p q r = r

leb_down : (u n : ℕ) → leb (u + 1) (suc n) ≡ leb u n
leb_down u n = rw add-one (leb-suc-suc u n)

leb_none : (u : ℕ) → leb (u + 1) 0 ≡ false
leb_none u = rw add-one (leb-suc-zero u)

leb_least : (n : ℕ) → leb 0 n ≡ leb 0 (suc n)
leb_least n = leb-zero n ∙ sym (leb-zero (suc n))

past_zero : {A : Type 0} (u : ℕ) (x y : A) → cond (eqb (suc u) 0) x y ≡ y
past_zero u x y = ap (λ b. cond b x y) (ne_eqb (suc u) 0 (λ e. omega arith))

less_one : (u : ℕ) → suc u - 1 ≡ u
less_one u = omega arith

module _ (base : List Segment) where
  abbrev Agrees : Held → ℕ → List Segment → Type 0
  Agrees held up rs = AgreesWith held up (stays base up rs) (lasting base up rs)

  one_off : (names : List Segment) (up : ℕ) (rs : List Segment) → Agrees (Some names) (up + 1) rs → AgreesWith (without_last names) up (stays base (up + 1) rs) (lasting base (up + 1) rs)
  one_off [] up rs h = h.0 ∙ leb_none up
  one_off (n ∷ ns) up rs h = (h.0 ∙ leb_down up (length ns), h.1 ∙ ap (λ k. drop k (n ∷ ns)) (add-one up))

  one_more : (s : Segment) (names : List Segment) (up : ℕ) (rs : List Segment) → ((k : ℕ) → Agrees (Some names) k rs) → AgreesWith (Some (s ∷ names)) up (stays base (up - 1) rs) (cond (eqb up 0) (s ∷ lasting base 0 rs) (lasting base (up - 1) rs))
  one_more s names zero rs h = ((h 0).0 ∙ leb_least (length names), ap (λ l. s ∷ l) (h 0).1)
  one_more s names (suc u) rs h = (
    ap (λ k. stays base k rs) (less_one u) ∙ (h u).0 ∙ sym (leb-suc-suc u (length names)),
    past_zero u (s ∷ lasting base 0 rs) (lasting base (suc u - 1) rs) ∙ ap (λ k. lasting base k rs) (less_one u) ∙ (h u).1,
  )

  some_by : (e d u : Bool) (s : Segment) (names : List Segment) (up : ℕ) (rs : List Segment) → ((k : ℕ) → Agrees (Some names) k rs)
      → AgreesWith (cond e None (cond d (Some names) (cond u (without_last names) (Some (s ∷ names))))) up
      (cond e false (cond d (stays base up rs) (cond u (stays base (up + 1) rs) (stays base (up - 1) rs))))
      (cond d (lasting base up rs) (cond u (lasting base (up + 1) rs) (cond (eqb up 0) (s ∷ lasting base 0 rs) (lasting base (up - 1) rs))))
  some_by true d u s names up rs h = refl
  some_by false true u s names up rs h = h up
  some_by false false true s names up rs h = one_off names up rs (h (up + 1))
  some_by false false false s names up rs h = one_more s names up rs h

  step : (held : Held) (s : Segment) (up : ℕ) (rs : List Segment) → ((k : ℕ) → Agrees held k rs) → Agrees (take_in held s) up (s ∷ rs)
  step None s up rs h = none_by (is_empty s) (is_dot s) (is_dots s) _ _ _ (h up) (h (up + 1)) (h (up - 1))
  step (Some names) s up rs h = some_by (is_empty s) (is_dot s) (is_dots s) s names up rs h

  agree : (rs : List Segment) (up : ℕ) → Agrees (walk_from (Some base) rs) up rs
  agree [] up = (refl, refl)
  agree (s ∷ rs) up = step (walk_from (Some base) rs) s up rs (agree rs)

some_from : (held : Held) (names : List Segment) (stay : Bool) → AgreesWith held 0 stay names → stay ≡ true → 0 < length names → some_names held ≡ Some names
some_from None names stay h stayed some = absurd (cc)
some_from (Some []) names stay h stayed some = let z = ap length h.1 in absurd (omega arith)
some_from (Some (x ∷ xs)) names stay h stayed some = ap Some (sym h.1)

none_from : (held : Held) (names : List Segment) (stay : Bool) → AgreesWith held 0 stay names → (stay ≡ false) ⊎ (names ≡ []) → some_names held ≡ None
none_from None names stay h why = refl
none_from (Some []) names stay h why = refl
none_from (Some (x ∷ xs)) names stay h (inl out) = absurd (true≢false (sym (leb-zero (length (x ∷ xs))) ∙ sym h.0 ∙ out))
none_from (Some (x ∷ xs)) names stay h (inr none) = let z : x ∷ xs ≡ [] = sym h.1 ∙ none in absurd (cc)

module _ (path specifier : List ℕ) (last : Segment) (base : List Segment) (cut : reverse (segments path) ≡ last ∷ base) where
  held_is : fold take_in (Some (folder path)) (segments specifier) ≡ walk_from (Some base) (reverse (segments specifier))
  held_is = ap (λ l. fold take_in (Some (others l)) (segments specifier)) cut ∙ fold_walk (Some base) (segments specifier)

  relative : (b : Bool) (o : Held) → b ≡ true → cond b o None ≡ o
  relative true o e = refl
  relative false o e = absurd (cc)

  -- a specifier that begins with a dot and a slash, whose segments stay below the top and leave a name, comes to the names that last
  pub joined : is_relative specifier ≡ true → stays base 0 (reverse (segments specifier)) ≡ true → 0 < length (lasting base 0 (reverse (segments specifier))) → Some (lasting base 0 (reverse (segments specifier))) ≡ join path specifier
  joined rel stayed some =
      sym (relative (is_relative specifier) _ rel ∙ ap some_names held_is ∙ some_from _ _ _ (agree base (reverse (segments specifier)) 0) stayed some)

  pub not_joined : is_relative specifier ≡ true → (stays base 0 (reverse (segments specifier)) ≡ false) ⊎ (lasting base 0 (reverse (segments specifier)) ≡ []) → None ≡ join path specifier
  not_joined rel why =
      sym (relative (is_relative specifier) _ rel ∙ ap some_names held_is ∙ none_from _ _ _ (agree base (reverse (segments specifier)) 0) why)
