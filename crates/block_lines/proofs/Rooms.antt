-- What an analysis comes to has room in its tables, so they have as many rows after it as before.
use Rattle.std.proofs.Common.{◌≡◌, ℕ, ◌≤◌, Bool, true, le_trans, List, [], ◌∷◌, ◌++◌, length, filter, Ok, Err, Result, sym, refl, ◌∙◌, subst, ⊎_elim, arith, le-leb, leb-true}
use Rattle.std.proofs.lemmas.Bool.{and_parts, cases_Bool, cond-false, cond-true}
use Rattle.std.proofs.lemmas.List.Sums.{length-filter, count_by-le-length}
use Rattle.tree.specs.Forest.{Forest, nil, node}
use Rattle.text.specs.declared.place.Place.{Place}
use Rattle.findings.proofs.Leaving.{room_held}
use Rattle.findings.specs.Tables.{Found, Leaves, Room, kept, nothing, room_of}
use Rattle.findings.specs.declared.tables.FindingsTables.{FindingsTables}
use Rattle.cjs_rules.specs.Nodes.{Node}
use Rattle.cjs_law.proofs.Stands.{fits_so, so_fits}
use Rattle.cjs_law.specs.Findings.{Fits, fits, held, outcome_after, safe}
use Rattle.cjs_law.specs.Walk.{Act}
use Rattle.exports.specs.Beyond.{item_names}
use Rattle.exports.specs.ExportedNames.{star_of}
use Rattle.exports.specs.Listing.{has_enough_room, listed, listing}
use Rattle.block_lines.specs.Analyses.{cjs_of, es_of}
use Rattle.block_lines.specs.Rooms.{is_within}

no_filter_lengthens : {X : Type 0} (p : X → Bool) (xs : List X) → length (filter p xs) ≤ length xs
no_filter_lengthens p xs = rw (length-filter p xs) (count_by-le-length p xs)

-- an answer that is refused is not accepted
never : {A B X : Type 0} (b : B) (a : A) → Err b ≡ Ok a → X
never b a e = let z : ◌≡◌ {A = ℕ} 0 1 = cc in let n : ⊥ = omega arith in absurd n

accepted : {A B : Type 0} (a b : A) → let x : Result A B = Ok a in x ≡ Ok b → a ≡ b
accepted a b e = cc

module _ (room : Room) where
  nothing_fits : Fits room nothing
  nothing_fits = record { bindings = omega arith; exports = omega arith; reexports = omega arith; unsafes = omega arith }

  module _ (T : List ℕ) where
    safe_fits : (f : Found) → Fits room f → Fits room (safe T f)
    safe_fits f h =
        let e = no_filter_lengthens _ f.exports in
        let r = no_filter_lengthens _ f.reexports in
        record { bindings = h.bindings; exports = le_trans e h.exports; reexports = le_trans r h.reexports; unsafes = h.unsafes }

    cjs_fits : (done acts : List Act) (f : Found) → Fits room (held T done) → outcome_after T room done acts ≡ Ok f → Fits room f
    cjs_fits done [] f h e = subst (Fits room) (accepted _ _ e) (safe_fits (held T done) h)
    cjs_fits done (a ∷ acts) f h e =
        ⊎_elim
        (λ yes. cjs_fits (done ++ a ∷ []) acts f (fits_so room _ yes) (sym (cond-true _ _ _ yes) ∙ e))
        (λ no. never _ _ (sym (cond-false _ _ _ no) ∙ e))
        (cases_Bool (fits room (held T (done ++ a ∷ []))))

  es_fits : (names stars : List Place) (g : Forest) (f : Found) → length names ≤ room.exports → length stars ≤ room.reexports → listed room names stars g ≡ Ok f → Fits room f
  es_fits names stars nil f a b e = subst (Fits room) (accepted _ _ e) (record { bindings = omega arith; exports = a; reexports = b; unsafes = omega arith })
  es_fits names stars (node j r ks rest) f a b e =
      let n : Node = record { row = r; kids = ks } in
      ⊎_elim
      (λ yes. es_fits (names ++ item_names n) (stars ++ star_of n) rest f (leb-true _ _ (and_parts _ _ yes).0) (leb-true _ _ (and_parts _ _ yes).1) (sym (cond-true _ _ _ yes) ∙ e))
      (λ no. never _ _ (sym (cond-false _ _ _ no) ∙ e))
      (cases_Bool (has_enough_room room (listing (names ++ item_names n) (stars ++ star_of n))))

  kept_fits : (o : Result Found ℕ) → ((f : Found) → o ≡ Ok f → Fits room f) → Fits room (kept o)
  kept_fits (Ok f) h = h f refl
  kept_fits (Err j) h = nothing_fits

room_kept : (s t : FindingsTables) (f : Found) → Fits (room_of s) f → Leaves s f t → room_of t ≡ room_of s
room_kept s t f h l = room_held (room_of s) f t l.holds h.bindings h.exports h.reexports h.unsafes

pub cjs_room_kept : (block : List ℕ) (s t : FindingsTables) → Leaves s (kept (cjs_of (room_of s) block)) t → room_of t ≡ room_of s
cjs_room_kept block s t = room_kept s t _ (kept_fits (room_of s) (cjs_of (room_of s) block) (λ f. cjs_fits (room_of s) _ [] _ f (nothing_fits (room_of s))))

pub es_room_kept : (block : List ℕ) (s t : FindingsTables) → Leaves s (kept (es_of (room_of s) block)) t → room_of t ≡ room_of s
es_room_kept block s t = room_kept s t _ (kept_fits (room_of s) (es_of (room_of s) block) (λ f. es_fits (room_of s) [] [] _ f (omega arith) (omega arith)))

-- no table of the one room has more rows than its like of the other
pub record Within (small large : Room) : Type 0 where
  pub bindings : small.bindings ≤ large.bindings
  pub exports : small.exports ≤ large.exports
  pub reexports : small.reexports ≤ large.reexports
  pub unsafes : small.unsafes ≤ large.unsafes

pub within_so : (small large : Room) → is_within small large ≡ true → Within small large
within_so small large e =
    let (first, d) = and_parts _ _ e in
    let (second, c) = and_parts _ _ first in
    let (a, b) = and_parts _ _ second in
    record { bindings = leb-true _ _ a; exports = leb-true _ _ b; reexports = leb-true _ _ c; unsafes = leb-true _ _ d }

-- what fits into less room comes out the same with more
module _ (small large : Room) (w : Within small large) where
  fits_more : (f : Found) → fits small f ≡ true → fits large f ≡ true
  fits_more f e =
      let h = fits_so small f e in
      so_fits large f (record { bindings = le_trans h.bindings w.bindings; exports = le_trans h.exports w.exports; reexports = le_trans h.reexports w.reexports; unsafes = le_trans h.unsafes w.unsafes })

  cjs_more : (T : List ℕ) (done acts : List Act) (f : Found) → outcome_after T small done acts ≡ Ok f → outcome_after T large done acts ≡ Ok f
  cjs_more T done [] f e = e
  cjs_more T done (a ∷ acts) f e =
      ⊎_elim
      (λ yes. cond-true _ _ _ (fits_more _ yes) ∙ cjs_more T (done ++ a ∷ []) acts f (sym (cond-true _ _ _ yes) ∙ e))
      (λ no. never _ _ (sym (cond-false _ _ _ no) ∙ e))
      (cases_Bool (fits small (held T (done ++ a ∷ []))))

  enough_more : (f : Found) → has_enough_room small f ≡ true → has_enough_room large f ≡ true
  enough_more f e =
      let parts = and_parts _ _ e in
      let a = leb-true (length f.exports) small.exports parts.0 in
      let b = leb-true (length f.reexports) small.reexports parts.1 in
      let exports : length f.exports ≤ large.exports = omega (arith, a, w.exports) in
      let reexports : length f.reexports ≤ large.reexports = omega (arith, b, w.reexports) in
      rw (le-leb _ _ exports, le-leb _ _ reexports) refl

  es_more : (names stars : List Place) (g : Forest) (f : Found) → listed small names stars g ≡ Ok f → listed large names stars g ≡ Ok f
  es_more names stars nil f e = e
  es_more names stars (node j r ks rest) f e =
      let n : Node = record { row = r; kids = ks } in
      ⊎_elim
      (λ yes. cond-true _ _ _ (enough_more (listing (names ++ item_names n) (stars ++ star_of n)) yes) ∙ es_more (names ++ item_names n) (stars ++ star_of n) rest f (sym (cond-true _ _ _ yes) ∙ e))
      (λ no. never _ _ (sym (cond-false _ _ _ no) ∙ e))
      (cases_Bool (has_enough_room small (listing (names ++ item_names n) (stars ++ star_of n))))

  pub cjs_same : (block : List ℕ) (f : Found) → cjs_of small block ≡ Ok f → cjs_of large block ≡ cjs_of small block
  cjs_same block f e = cjs_more _ [] _ f e ∙ sym e

  pub es_same : (block : List ℕ) (f : Found) → es_of small block ≡ Ok f → es_of large block ≡ es_of small block
  es_same block f e = es_more [] [] _ f e ∙ sym e
