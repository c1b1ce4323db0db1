-- The outcome in words: all is listed where it fits, and else the first item up to which it does not fit is refused.
use Rattle.std.proofs.Common.{◌≡◌, ℕ, ◌+◌, ◌<◌, ◌≤◌, true, false, eqb, leb, List, [], ◌++◌, length, Ok, Err, Result, sym, refl, ap, ◌∙◌, subst, inl, inr, ⊎_elim, true≢false, append_assoc, append-nil, arith, le-leb, leb-true}
use borrow.Author.Tests.{lt-leb}
use Rattle.findings.specs.Tables.{Found, Room}
use Rattle.std.proofs.lemmas.List.{length-append}
use Rattle.std.proofs.lemmas.Bool.{and_parts, cases_Bool, cases_order, cond_both, cond-false, cond-true}
use Rattle.text.specs.declared.place.Place.{Place}
use Rattle.tree.specs.declared.row.Row.{Row}
use Rattle.tree.specs.Enclosure.{Rises, Stands}
use Rattle.tree.specs.Forest.{Forest, Nested, children, nil, node, row_at}
use Rattle.tree.proofs.Direct.{children_are_enclosed_directly, children_stand_in_order}
use Rattle.cjs_rules.specs.Nodes.{Node}
use Rattle.findings.proofs.Telling.{rising}
use Rattle.exports.specs.Beyond.{item_names}
use Rattle.exports.specs.ExportedNames.{each, star_of}
use Rattle.exports.specs.Listing.{FirstWithoutRoom, Fits, ListedWholeOrRefusedAtTheFirstChildWithoutRoom, es_outcome, has_enough_room, items, listed, listing, up_to}

module _ (room : Room) where
  -- there is room for these names and stars, and then for all of these items
  record Within (names stars : List Place) (f : Forest) : Type 0 where
    pub exports : length (names ++ each item_names f) ≤ room.exports
    pub reexports : length (stars ++ each star_of f) ≤ room.reexports

  has_room : (names stars : List Place) → length names ≤ room.exports → length stars ≤ room.reexports → has_enough_room room (listing names stars) ≡ true
  has_room names stars a b = rw (le-leb _ _ a, le-leb _ _ b) refl

  -- one item, and then the rest
  module _ (names stars : List Place) (n : Node) (rest : Forest) where
    abbrev names' : List Place
    names' = names ++ item_names n

    abbrev stars' : List Place
    stars' = stars ++ star_of n

    item_first : (j : ℕ) → Within names stars (node j n.row n.kids rest) → Within names' stars' rest
    item_first j w = record { exports = rw append_assoc w.exports; reexports = rw append_assoc w.reexports }

    item_counted : (j : ℕ) → Within names' stars' rest → Within names stars (node j n.row n.kids rest)
    item_counted j w = record { exports = rw append_assoc at w.exports; reexports = rw append_assoc at w.reexports }

    room_for_item : Within names' stars' rest → has_enough_room room (listing names' stars') ≡ true
    room_for_item w = has_room names' stars' (omega (arith, w.exports, length-append names' (each item_names rest))) (omega (arith, w.reexports, length-append stars' (each star_of rest)))

  within_nothing : (names stars : List Place) → length names ≤ room.exports → length stars ≤ room.reexports → Within names stars nil
  within_nothing names stars a b = record { exports = rw append-nil a; reexports = rw append-nil b }

  all_listed : (names stars : List Place) (f : Forest) → Within names stars f → listed room names stars f ≡ Ok (listing (names ++ each item_names f) (stars ++ each star_of f))
  all_listed names stars nil w = λ i. Ok (listing (sym (append-nil names) i) (sym (append-nil stars) i))
  all_listed names stars (node j r f rest) w =
      let n : Node = record { row = r; kids = f } in
      let on = item_first names stars n rest j w in
      cond-true _ _ _ (room_for_item names stars n rest on)
      ∙ all_listed (names ++ item_names n) (stars ++ star_of n) rest on
      ∙ (λ i. Ok (listing (append_assoc names (item_names n) (each item_names rest) i) (append_assoc stars (star_of n) (each star_of rest) i)))

  only_within : (names stars : List Place) (f : Forest) (found : Found) → length names ≤ room.exports → length stars ≤ room.reexports → listed room names stars f ≡ Ok found → Within names stars f
  only_within names stars nil found a b e = within_nothing names stars a b
  only_within names stars (node j r f rest) found a b e =
      let n : Node = record { row = r; kids = f } in
      ⊎_elim
      (λ fits. item_counted names stars n rest j
      (only_within (names ++ item_names n) (stars ++ star_of n) rest found (leb-true _ _ (and_parts _ _ fits).0) (leb-true _ _ (and_parts _ _ fits).1) (sym (cond-true _ _ _ fits) ∙ e)))
      (λ over. absurd (let err : Err j ≡ Ok found = sym (cond-false _ _ _ over) ∙ e in let z : ◌≡◌ {A = ℕ} 0 1 = cc in omega arith))
      (cases_Bool (has_enough_room room (listing (names ++ item_names n) (stars ++ star_of n))))

  -- the items before row `from` on, up to a row before that
  none_up_to : (c from : ℕ) (f : Forest) → c < from → Rises from f → up_to c f ≡ nil
  none_up_to c from nil h rises = refl
  none_up_to c from (node j r f rest) h rises = cond-false _ _ _ (lt-leb j c (omega (arith, rises.0)))

  -- row c is the first among the items up to which there is no room
  record First (names stars : List Place) (f : Forest) (c : ℕ) : Type 0 where
    pub item : Stands c f
    pub full : Within names stars (up_to c f) → ⊥
    pub before : (i : ℕ) → Stands i f → i < c → Within names stars (up_to i f)

  module _ (names stars : List Place) (j : ℕ) (n : Node) (rest : Forest) (rises : Rises (j + 1) rest) where
    abbrev here : Forest
    here = node j n.row n.kids rest

    up_to_first : up_to j here ≡ node j n.row n.kids nil
    up_to_first = cond-true _ _ _ (le-leb j j (omega arith)) ∙ ap (node j n.row n.kids) (none_up_to j (j + 1) rest (omega arith) rises)

    up_to_later : (c : ℕ) → j < c → up_to c here ≡ node j n.row n.kids (up_to c rest)
    up_to_later c lt = cond-true _ _ _ (le-leb j c (omega arith))

    within_first : has_enough_room room (listing (names ++ item_names n) (stars ++ star_of n)) ≡ true → Within names stars (up_to j here)
    within_first fits =
        rw up_to_first
        (item_counted names stars n nil j (within_nothing (names ++ item_names n) (stars ++ star_of n) (leb-true _ _ (and_parts _ _ fits).0) (leb-true _ _ (and_parts _ _ fits).1)))

    first_is_full : has_enough_room room (listing (names ++ item_names n) (stars ++ star_of n)) ≡ false → Within names stars (up_to j here) → ⊥
    first_is_full over w =
        true≢false (sym (room_for_item names stars n nil (item_first names stars n nil j (rw up_to_first at w))) ∙ over)

  first_refused : (names stars : List Place) (f : Forest) (from c : ℕ) → Rises from f → length names ≤ room.exports → length stars ≤ room.reexports → listed room names stars f ≡ Err c → First names stars f c
  first_refused names stars nil from c rises a b e = absurd (let z : ◌≡◌ {A = ℕ} 0 1 = cc in omega arith)
  first_refused names stars (node j r f rest) from c rises a b e =
      let n : Node = record { row = r; kids = f } in
      ⊎_elim
      (λ fits.
      let ih = first_refused (names ++ item_names n) (stars ++ star_of n) rest (j + 1) c rises.1 (leb-true _ _ (and_parts _ _ fits).0) (leb-true _ _ (and_parts _ _ fits).1) (sym (cond-true _ _ _ fits) ∙ e) in
      let above : j < c = omega (arith, rising rest (j + 1) c rises.1 ih.item) in
      record {
        item = inr ih.item;
        full = λ w. ih.full (item_first names stars n (up_to c rest) j (rw (up_to_later names stars j n rest rises.1 c above) at w));
        before = λ i s lt.
            ⊎_elim
            (λ same. subst (λ k. Within names stars (up_to k (node j r f rest))) (sym same) (within_first names stars j n rest rises.1 fits))
            (λ later.
            let over : j < i = omega (arith, rising rest (j + 1) i rises.1 later) in
            rw (up_to_later names stars j n rest rises.1 i over) (item_counted names stars n (up_to i rest) j (ih.before i later lt)))
            s;
      })
      (λ over.
      let same : j ≡ c = let err : Err j ≡ Err c = sym (cond-false _ _ _ over) ∙ e in cc in
      record {
        item = inl (sym same);
        full = λ w. first_is_full names stars j n rest rises.1 over (subst (λ k. Within names stars (up_to k (node j r f rest))) (sym same) w);
        before = λ i s lt. absurd (⊎_elim (λ e. omega arith) (λ later. omega (arith, rising rest (j + 1) i rises.1 later)) s);
      })
      (cases_Bool (has_enough_room room (listing (names ++ item_names n) (stars ++ star_of n))))

-- a front of the items gives no more than all of them
no_longer : (list : Node → List Place) (c : ℕ) (f : Forest) → length (each list (up_to c f)) ≤ length (each list f)
no_longer list c nil = omega arith
no_longer list c (node j r f rest) =
    let n : Node = record { row = r; kids = f } in
    cond_both (leb j c) _ _ (λ g. length (each list g) ≤ length (each list (node j r f rest)))
    (λ _. omega (arith, no_longer list c rest, length-append (list n) (each list (up_to c rest)), length-append (list n) (each list rest)))
    (λ _. omega arith)

module _ (room : Room) where
  from_fits : (f : Forest) → Fits room f → Within room [] [] f
  from_fits f w = record { exports = w.exports; reexports = w.reexports }

  to_fits : (f : Forest) → Within room [] [] f → Fits room f
  to_fits f w = record { exports = w.exports; reexports = w.reexports }

  front_fits : (c : ℕ) (f : Forest) → Fits room f → Fits room (up_to c f)
  front_fits c f w = record { exports = omega (arith, w.exports, no_longer item_names c f); reexports = omega (arith, w.reexports, no_longer star_of c f) }

  only : (rs : List Row) (found : Found) → es_outcome room rs ≡ Ok found → Fits room (items rs)
  only rs found e = to_fits (items rs) (only_within room [] [] (items rs) found (omega arith) (omega arith) e)

  module _ (rs : List Row) (law : Nested rs) where
    refused : (c : ℕ) → es_outcome room rs ≡ Err c → FirstWithoutRoom room rs c
    refused c e =
        ⊎_elim
        (λ script. absurd (let same : listed room [] [] nil ≡ Err c = sym (ap (listed room [] []) (cond-true _ _ _ script)) ∙ e in let z : ◌≡◌ {A = ℕ} 0 1 = cc in omega arith))
        (λ marked-module.
        let same : items rs ≡ children rs 0 = cond-false _ _ _ marked-module in
        let f = first_refused room [] [] (children rs 0) 1 c (children_stand_in_order rs law 0) (omega arith) (omega arith) (sym (ap (listed room [] []) same) ∙ e) in
        record {
          child = (children_are_enclosed_directly rs law 0 c).0 f.item;
          full = λ w. f.full (from_fits (up_to c (children rs 0)) (subst (λ g. Fits room (up_to c g)) same w));
          before = λ i child lt. subst (λ g. Fits room (up_to i g)) (sym same) (to_fits (up_to i (children rs 0)) (f.before i ((children_are_enclosed_directly rs law 0 i).1 child) lt));
        })
        (cases_Bool (eqb (row_at rs 0).mark 1))

    first : (c : ℕ) → FirstWithoutRoom room rs c → es_outcome room rs ≡ Err c
    first c w = go (es_outcome room rs) refl
      where
        go : (o : Result Found ℕ) → es_outcome room rs ≡ o → es_outcome room rs ≡ Err c
        go (Ok found) e = absurd (w.full (front_fits c (items rs) (only rs found e)))
        go (Err d) e =
            let v = refused d e in
            ⊎_elim (λ same. e ∙ ap Err (sym same))
            (⊎_elim (λ lt. absurd (w.full (v.before c w.child lt))) (λ lt. absurd (v.full (w.before d v.child lt))))
            (cases_order c d)

pub whole_or_refused : ListedWholeOrRefusedAtTheFirstChildWithoutRoom
whole_or_refused = record {
  accepted = λ room rs w. all_listed room [] [] (items rs) (from_fits room (items rs) w);
  only = only;
  refused = refused;
  first = first;
}
