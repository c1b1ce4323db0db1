-- What is computed is the outcome in words, and there is no other.
use Rattle.std.proofs.Common.{◌≡◌, ℕ, Bool, true, false, cond, ◌&&◌, List, [], ◌∷◌, ◌++◌, map, Ok, Err, Result, sym, refl, ap, ◌∙◌, subst, ⊎_elim, true≢false, arith, le-leb, leb-true}
use Rattle.std.proofs.lemmas.Bool.{and_parts}
use Rattle.std.proofs.lemmas.List.{append-nil, append_assoc}
use Rattle.cjs_law.specs.Findings.{Finds, Held, Listing, Fits, Always, Overflows, Outcome, outcome_after, held, safe, fits, loosely, by_name, bindings, exported, reexported, marked_unsafe}
use Rattle.cjs_law.specs.Walk.{Act}
use Rattle.findings.specs.Tables.{Found, Room}
use Rattle.cjs_law.proofs.Splits.{fronts, nothing_left, places}
use Rattle.cjs_law.proofs.Listed.{lists_one, all_more, empty_lists, without_lists}

pub held_holds : (T : List ℕ) (ds : List Act) → Held T ds (held T ds)
held_holds T ds = record {
  bindings = all_more (by_name T) [] (bindings ds) [] (empty_lists (by_name T) []);
  exports = all_more (loosely T) [] (exported ds) [] (empty_lists (loosely T) []);
  reexports = all_more (loosely T) [] (reexported ds) [] (empty_lists (loosely T) []);
  unsafes = all_more (loosely T) [] (marked_unsafe ds) [] (empty_lists (loosely T) []);
}

pub safe_finds : (T : List ℕ) (ds : List Act) → Finds T ds (safe T (held T ds))
safe_finds T ds =
    let h = held_holds T ds in
    record {
      bindings = h.bindings;
      exports = without_lists (loosely T) (marked_unsafe ds) (held T ds).unsafes (exported ds) (held T ds).exports h.unsafes h.exports;
      reexports = without_lists (loosely T) (marked_unsafe ds) (held T ds).unsafes (reexported ds) (held T ds).reexports h.unsafes h.reexports;
      unsafes = h.unsafes;
    }

pub listing_one : (T : List ℕ) (ds : List Act) (barred : List (List ℕ)) (f g : Found) → Listing T ds barred f → Listing T ds barred g → f ≡ g
listing_one T ds barred f g a b = λ i. record {
  bindings = lists_one (by_name T) (bindings ds) [] f.bindings g.bindings a.bindings b.bindings i;
  exports = lists_one (loosely T) (exported ds) barred f.exports g.exports a.exports b.exports i;
  reexports = lists_one (loosely T) (reexported ds) barred f.reexports g.reexports a.reexports b.reexports i;
  unsafes = lists_one (loosely T) (marked_unsafe ds) [] f.unsafes g.unsafes a.unsafes b.unsafes i;
}

pub so_fits : (room : Room) (f : Found) → Fits room f → fits room f ≡ true
so_fits room f h = λ i. le-leb _ _ h.bindings i && le-leb _ _ h.exports i && le-leb _ _ h.reexports i && le-leb _ _ h.unsafes i

four : (a b c d : Bool) → (a && b && c && d) ≡ true → (a ≡ true) × (b ≡ true) × (c ≡ true) × (d ≡ true)
four a b c d e = let p = and_parts (a && b && c) d e in let q = and_parts (a && b) c p.0 in let r = and_parts a b q.0 in (r.0, r.1, q.1, p.1)

pub fits_so : (room : Room) (f : Found) → fits room f ≡ true → Fits room f
fits_so room f e =
    let p = four _ _ _ _ e in
    record { bindings = leb-true _ _ p.0; exports = leb-true _ _ p.1; reexports = leb-true _ _ p.2; unsafes = leb-true _ _ p.3 }

pub fits_not : (room : Room) (f : Found) → fits room f ≡ false → Fits room f → ⊥
fits_not room f e h = true≢false (sym (so_fits room f h) ∙ e)

module _ (T : List ℕ) (room : Room) where
  fits_held : (ds : List Act) (f : Found) → fits room (held T ds) ≡ true → Held T ds f → Fits room f
  fits_held ds f e h = subst (Fits room) (listing_one T ds [] (held T ds) f (held_holds T ds) h) (fits_so room (held T ds) e)

  full_held : (ds : List Act) (f : Found) → fits room (held T ds) ≡ false → Held T ds f → Fits room f → ⊥
  full_held ds f e h p = fits_not room (held T ds) e (subst (Fits room) (listing_one T ds [] f (held T ds) h (held_holds T ds)) p)

  always_more : (ds : List Act) (d : Act) → Always T room ds → fits room (held T (ds ++ d ∷ [])) ≡ true → Always T room (ds ++ d ∷ [])
  always_more ds d h e b a f s k = ⊎_elim
      (λ q. h b q.0 f q.1 k)
      (λ q. fits_held (ds ++ d ∷ []) f e (subst (λ l. Held T l f) q k))
      (fronts ds d b a s)

  pub always_none : Always T room []
  always_none b a f s k = fits_held [] f (so_fits room (held T []) (omega arith)) (subst (λ l. Held T l f) (nothing_left b a s) k)

  outcome_by : (before : List Act) (d : Act) (ds : List Act) (t : Bool) → fits room (held T (before ++ d ∷ [])) ≡ t → Always T room before → (Always T room (before ++ d ∷ []) → Outcome T room (before ++ d ∷ ds) (outcome_after T room (before ++ d ∷ []) ds)) → Outcome T room (before ++ d ∷ ds) (cond t (outcome_after T room (before ++ d ∷ []) ds) (Err d.row))
  outcome_by before d ds true e h f = f (always_more before d h e)
  outcome_by before d ds false e h f = record { before = before; act = d; after = ds; split = refl; at = refl; fitted = h; full = λ g k p. full_held (before ++ d ∷ []) g e k p }

  pub outcome_from : (before ds : List Act) → Always T room before → Outcome T room (before ++ ds) (outcome_after T room before ds)
  outcome_from before [] h = subst (λ l. Always T room l × Finds T l (safe T (held T before))) (sym (append-nil before)) (h, safe_finds T before)
  outcome_from before (d ∷ ds) h = outcome_by before d ds (fits room (held T (before ++ d ∷ []))) refl h
      (λ k. subst (λ l. Outcome T room l (outcome_after T room (before ++ d ∷ []) ds)) (append_assoc before (d ∷ []) ds) (outcome_from (before ++ d ∷ []) ds k))

  not_both : (ds : List Act) (b : List Act) (d : Act) (c : List Act) → Always T room ds → ds ≡ (b ++ d ∷ []) ++ c → ((f : Found) → Held T (b ++ d ∷ []) f → Fits room f → ⊥) → ⊥
  not_both ds b d c h e n = n (held T (b ++ d ∷ [])) (held_holds T (b ++ d ∷ [])) (h (b ++ d ∷ []) c (held T (b ++ d ∷ [])) e (held_holds T (b ++ d ∷ [])))

  one_row : (ds : List Act) (i j : ℕ) → Overflows T room ds i → Overflows T room ds j → i ≡ j
  one_row ds i j p q = ⊎_elim
      (λ e. sym p.at ∙ ap (λ d. d.row) e ∙ q.at)
      (λ o. ⊎_elim
      (λ c. absurd (not_both q.before p.before p.act c.0 q.fitted c.1 p.full))
      (λ c. absurd (not_both p.before q.before q.act c.0 p.fitted c.1 q.full)) o)
      (places p.before p.act p.after q.before q.act q.after (sym p.split ∙ q.split))

  pub one_answer : (ds : List Act) (r s : Result Found ℕ) → Outcome T room ds r → Outcome T room ds s → r ≡ s
  one_answer ds (Ok f) (Ok g) a b = ap Ok (listing_one T ds (map (loosely T) (marked_unsafe ds)) f g a.1 b.1)
  one_answer ds (Ok f) (Err j) a b = absurd (not_both ds b.before b.act b.after a.0 (b.split ∙ sym (append_assoc b.before (b.act ∷ []) b.after)) b.full)
  one_answer ds (Err i) (Ok g) a b = absurd (not_both ds a.before a.act a.after b.0 (a.split ∙ sym (append_assoc a.before (a.act ∷ []) a.after)) a.full)
  one_answer ds (Err i) (Err j) a b = ap Err (one_row ds i j a b)
