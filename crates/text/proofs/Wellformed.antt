-- One more code point of WTF-8: what is left is well-formed where the whole is, and the other way.
use Rattle.std.proofs.Common.{◌≡◌, ℕ, ◌<◌, Bool, true, false, ◌&&◌, List, [], ◌∷◌, ◌++◌, length, Some, Result, Ok, Err, IsAscii, IsUtf8, Decides, nat_lt, refl, sym, ap, ◌∙◌, subst, arith, length-append}
use lib.Utf8.{encode, encodes, scalar, scalars}
use Rattle.std.proofs.lemmas.Bool.{both_ways, false≢true, and_parts, and_from, lt-ltb, ltb-true, not-true, not_from_false}
use Rattle.std.proofs.lemmas.Str.{cons_from_encodes, length-encode, len_utf8_bounds, IsUtf8-from_ascii, IsUtf8-past_char}
use Rattle.std.proofs.lemmas.Bool.Decides.{nat_tests}
use Rattle.text.specs.Laws.{surrogate}
use Rattle.text.specs.Points.{NoPoint, Leads, Wtf8, Wtf8After, points, unpaired, high, low}
use Rattle.text.specs.declared.points.Malformed.{Malformed}

-- after a code point of WTF-8 comes WTF-8
pub wtf8_rest : (h : Bool) (bs more : List ℕ) (n : ℕ) → bs ≡ encode n ++ more → Wtf8After h bs → ((h && low n) ≡ false) × Wtf8After (high n) more
wtf8_rest h bs more n e w =
    let k = cons_from_encodes w.0 more n (w.1.2 ∙ e) in
    let p = and_parts _ _ (subst (λ cs. points cs ≡ true) k.1 w.1.0) in
    let a = and_parts _ _ (subst (λ cs. unpaired h cs ≡ true) k.1 w.1.1) in
    (not-true _ a.0, (k.0, (p.1, a.1, k.2)))

-- a code point before WTF-8, unless the two make a pair
pub wtf8_more : (h : Bool) (bs more : List ℕ) (n : ℕ) → n < 1114112 → bs ≡ encode n ++ more → (h && low n) ≡ false → Wtf8After (high n) more → Wtf8After h bs
wtf8_more h bs more n u e f w = (n ∷ w.0, (and_from _ _ (lt-ltb n 1114112 u) w.1.0, and_from _ _ (not_from_false _ f) w.1.1, ap (λ l. encode n ++ l) w.1.2 ∙ sym e))

-- bytes that begin with no code point are no WTF-8
pub wtf8_refused : (h : Bool) (bs : List ℕ) → 0 < length bs → NoPoint bs → Wtf8After h bs → ⊥
wtf8_refused h bs l none w = by w.0 w.1.0 w.1.2
  where
    by : (cs : List ℕ) → points cs ≡ true → encodes cs ≡ bs → ⊥
    by [] p e = omega (arith, ap length e)
    by (c ∷ cs) p e = none c (encodes cs) (ltb-true c 1114112 (and_parts _ _ p).0) (sym e)

pub shorter : (bs more : List ℕ) (n : ℕ) → bs ≡ encode n ++ more → length more < length bs
shorter bs more n e = omega (arith, ap length e, length-append (encode n) more, length-encode n, (len_utf8_bounds n).0)

-- a step through code points leaves fewer bytes
pub fewer : (before after : List ℕ) (r : Result ℕ Malformed) → Leads before (Some r) after → length after < length before
fewer before after (Ok n) l = shorter before after n l.1
fewer before after (Err e) l = l.1

-- code points are scalar values where they are no surrogates
pub scalar_from : (n : ℕ) → n < 1114112 → surrogate n ≡ false → scalar n ≡ true
scalar_from n u e = grind (arith, nat_tests)

no_scalar : (n : ℕ) → surrogate n ≡ true → scalar n ≡ false
no_scalar n e = grind (arith, nat_tests)

-- after a code point of UTF-8 comes UTF-8, and a code point before UTF-8 makes UTF-8, unless it is a surrogate
utf8_first : (bs more : List ℕ) (n : ℕ) → bs ≡ encode n ++ more → IsUtf8 bs → scalar n ≡ true
utf8_first bs more n e w =
    let k = cons_from_encodes w.0 more n (w.1.1 ∙ e) in
    (and_parts _ _ (subst (λ cs. scalars cs ≡ true) k.1 w.1.0)).0

utf8_more : (bs more : List ℕ) (n : ℕ) → scalar n ≡ true → bs ≡ encode n ++ more → IsUtf8 more → IsUtf8 bs
utf8_more bs more n s e w = (n ∷ w.0, (and_from _ _ s w.1.0, ap (λ l. encode n ++ l) w.1.1 ∙ sym e))

-- UTF-8 is WTF-8
scalars_unpaired : (cs : List ℕ) → scalars cs ≡ true → (points cs ≡ true) × (unpaired false cs ≡ true)
scalars_unpaired [] s = (refl, refl)
scalars_unpaired (c ∷ cs) s =
    let h = and_parts _ _ s in
    let k = scalars_unpaired cs h.1 in
    (and_from _ _ (below c h.0) k.0, subst (λ t. unpaired t cs ≡ true) (sym (apart c h.0)) k.1)
  where
    below : (c : ℕ) → scalar c ≡ true → nat_lt c 1114112 ≡ true
    below c e = grind (arith, nat_tests)

    apart : (c : ℕ) → scalar c ≡ true → high c ≡ false
    apart c e = grind (arith, nat_tests)

utf8_is_wtf8 : (bs : List ℕ) → IsUtf8 bs → Wtf8 bs
utf8_is_wtf8 bs u = let k = scalars_unpaired u.0 u.1.0 in (u.0, (k.0, k.1, u.1.1))

-- ASCII is both
pub utf8_ascii : (bs : List ℕ) → IsAscii bs → Decides true (IsUtf8 bs)
utf8_ascii bs h = ((λ _. IsUtf8-from_ascii bs h), λ _. refl)

pub wtf8_ascii : (bs : List ℕ) → IsAscii bs → Decides true (Wtf8 bs)
wtf8_ascii bs h = ((λ _. utf8_is_wtf8 bs (IsUtf8-from_ascii bs h)), λ _. refl)

-- the bytes of which `rest` is left are UTF-8 where `rest` is
abbrev pub AlongUtf8 : List ℕ → List ℕ → Type 0
AlongUtf8 whole rest = (IsUtf8 whole → IsUtf8 rest) × (IsUtf8 rest → IsUtf8 whole)

module _ (whole bs more : List ℕ) (r : Result ℕ Malformed) (so_far : AlongUtf8 whole bs) (step : Leads bs (Some r) more) where
  -- a scalar value
  pub along_utf8 : (n : ℕ) → r ≡ Ok n → surrogate n ≡ false → AlongUtf8 whole more
  along_utf8 n is free =
      let l = subst (λ q. Leads bs (Some q) more) is step in
      ((λ w. IsUtf8-past_char bs more n (so_far.0 w) l.1), λ w. so_far.1 (utf8_more bs more n (scalar_from n l.0 free) l.1 w))

  -- a surrogate
  pub surrogate_came : (n : ℕ) → r ≡ Ok n → surrogate n ≡ true → Decides false (IsUtf8 whole)
  surrogate_came n is s =
      let l = subst (λ q. Leads bs (Some q) more) is step in
      ((λ f. absurd (false≢true f)), λ w. absurd (both_ways _ (no_scalar n s) (utf8_first bs more n l.1 (so_far.0 w))))

  -- no code point: then it is no WTF-8 either
  pub broken_utf8 : (e : Malformed) → r ≡ Err e → Decides false (IsUtf8 whole)
  broken_utf8 e is =
      let l = subst (λ q. Leads bs (Some q) more) is step in
      ((λ f. absurd (false≢true f)), λ w. absurd (wtf8_refused false bs (omega (arith, l.1)) l.0 (utf8_is_wtf8 bs (so_far.0 w))))

-- the bytes of which `rest` is left are WTF-8 where `rest` is, `h` saying whether a high surrogate stands before it
abbrev pub Along : List ℕ → Bool → List ℕ → Type 0
Along whole h rest = (Wtf8 whole → Wtf8After h rest) × (Wtf8After h rest → Wtf8 whole)

module _ (whole bs more : List ℕ) (h : Bool) (r : Result ℕ Malformed) (so_far : Along whole h bs) (step : Leads bs (Some r) more) where
  at_point : (n : ℕ) → r ≡ Ok n → Leads bs (Some (Ok n)) more
  at_point n is = subst (λ q. Leads bs (Some q) more) is step

  -- a code point that completes no pair
  pub along : (n : ℕ) (k : Bool) → r ≡ Ok n → (h && low n) ≡ false → high n ≡ k → Along whole k more
  along n k is free e =
      let l = at_point n is in (
        (λ w. subst (λ b. Wtf8After b more) e (wtf8_rest h bs more n l.1 (so_far.0 w)).1),
        λ w. so_far.1 (wtf8_more h bs more n l.0 l.1 free (subst (λ b. Wtf8After b more) (sym e) w)),
      )

  -- one that does
  pub paired : (n : ℕ) → r ≡ Ok n → (h && low n) ≡ true → Decides false (Wtf8 whole)
  paired n is pair = ((λ f. absurd (false≢true f)), λ w. absurd (both_ways _ (wtf8_rest h bs more n (at_point n is).1 (so_far.0 w)).0 pair))

  -- no code point
  pub broken : (e : Malformed) → r ≡ Err e → Decides false (Wtf8 whole)
  broken e is = let l = subst (λ q. Leads bs (Some q) more) is step in ((λ f. absurd (false≢true f)), λ w. absurd (wtf8_refused h bs (omega (arith, l.1)) l.0 (so_far.0 w)))
