-- A table after a row was entered: by its place among the rows that are held, and then with the rest.
use Rattle.std.proofs.Common.{◌≡◌, ℕ, ◌+◌, ◌-◌, ◌<◌, ◌≤◌, Bool, true, false, List, [], ◌∷◌, ◌++◌, map, length, get_or, take, drop, set, replicate, Ok, Err, Result, Ordering, Less, Equal, Greater, sym, refl, ap, ◌∙◌, subst, arith, lt-ltb}
use Rattle.std.specs.List.{insert}
use Rattle.std.specs.Ordering.{match_ordering}
use Rattle.std.proofs.lemmas.Bool.{le-ltb}
use Rattle.std.proofs.lemmas.List.{length-take-le, length-set, set-append_left, length-append, length-replicate, take-append-drop, drop-drop, drop-replicate, take_at, drop_at, get_or-take}
use Rattle.std.proofs.lemmas.List.Edits.{length-insert}
use Rattle.table.specs.Kind.{Holds, Kind}
use Rattle.table.specs.Order.{TotalOrder}
use Rattle.table.specs.Table.{later, place, Entered, InOrder, Left, enter_row, padded, Rest, Stored}
use Rattle.table.proofs.Rising.{ordered_entered}

module _ {X : Type 0} (pick : X → X → X) (r : X) where
  -- ys is xs with r at a new place, or with `pick` of r and the row that stands there
  abbrev pub Shaped : List X → List X → Result ℕ ℕ → Type 0
  Shaped xs ys (Ok i) = ys ≡ set xs i (pick r (get_or xs i r))
  Shaped xs ys (Err i) = ys ≡ insert xs i r

  shaped_by : (x : X) (xs ys : List X) (a : Ordering) (p : Result ℕ ℕ) → Shaped xs ys p → Shaped (x ∷ xs) (match_ordering a (r ∷ x ∷ xs) (pick r x ∷ xs) (x ∷ ys)) (match_ordering a (Err 0) (Ok 0) (later p))
  shaped_by x xs ys Less p h = refl
  shaped_by x xs ys Equal p h = refl
  shaped_by x xs ys Greater (Ok i) h = ap (λ l. x ∷ l) h
  shaped_by x xs ys Greater (Err i) h = ap (λ l. x ∷ l) h

  shaped : {K : Type 0} (o : K → K → Ordering) (key : X → K) (xs : List X) → Shaped xs (enter_row pick o key r xs) (place o (key r) (map key xs))
  shaped o key [] = refl
  shaped o key (x ∷ xs) = shaped_by x xs (enter_row pick o key r xs) (o (key r) (key x)) (place o (key r) (map key xs)) (shaped o key xs)

module _ {X : Type 0} {z : X} {n : ℕ} {rows : List X} (rest : Rest z n rows) where
  pub whole : rows ≡ padded z (length rows) (take n rows)
  whole =
      let l : length (take n rows) ≡ n = length-take-le n rows rest.fits in
      sym (take-append-drop n rows) ∙ ap (λ q. take n rows ++ q) (rest.zeros ∙ ap (λ m. replicate (length rows - m) z) (sym l))

  pub as_they_are : Left z (length rows) (take n rows) n rows
  as_they_are = record { len_is = sym (length-take-le n rows rest.fits); rows_is = whole }

  -- a row in the place of another
  pub replaces : (i : ℕ) (x : X) (ys : List X) → i < n → ys ≡ set (take n rows) i x → Stored z n rows ys false n (set rows i x)
  replaces i x ys lt e =
      let m : length (take n rows) ≡ n = length-take-le n rows rest.fits in
      let l : length ys ≡ n = ap length e ∙ length-set (take n rows) i x ∙ m in
      let f : n ≤ length rows = rest.fits in
      record {
        room = omega arith;
        new_is = sym (le-ltb n (length ys) (omega arith));
        len_is = sym l;
        rows_is = ap (λ q. set q i x) whole ∙ set-append_left (take n rows) (replicate (length rows - length (take n rows)) z) i x (omega arith) ∙ (λ k. sym e k ++ replicate (length rows - (m ∙ sym l) k) z);
      }

  -- a row at a new place
  pub grows : (r : X) (i : ℕ) → i ≤ n → n < length rows → Stored z n rows (insert (take n rows) i r) true (n + 1) (insert (take n rows) i r ++ drop (n + 1) rows)
  grows r i le lt =
      let l : length (insert (take n rows) i r) ≡ n + 1 = length-insert (take n rows) i r (omega (arith, length-take-le n rows rest.fits)) ∙ ap (λ m. m + 1) (length-take-le n rows rest.fits) in
      let w : drop (n + 1) rows ≡ replicate (length rows - n - 1) z = sym (drop-drop 1 n rows) ∙ ap (drop 1) rest.zeros ∙ drop-replicate 1 (length rows - n) z in
      let k : length rows - n - 1 ≡ length rows - length (insert (take n rows) i r) = omega arith in
      record {
        room = omega arith;
        new_is = sym (lt-ltb n (length (insert (take n rows) i r)) (omega arith));
        len_is = sym l;
        rows_is = ap (λ q. insert (take n rows) i r ++ q) (w ∙ ap (λ m. replicate m z) k);
      }

-- what stands among the rows, and that the rest is z
module _ {X : Type 0} {z : X} {cap : ℕ} {ys : List X} {m : ℕ} {after : List X} (h : Left z cap ys m after) where
  pub take_left : take m after ≡ ys
  take_left = (λ i. take (h.len_is i) (h.rows_is i)) ∙ take_at ys (replicate (cap - length ys) z) (length ys) refl

  pub length_left : length ys ≤ cap → length after ≡ cap
  length_left fits = ap length h.rows_is ∙ length-append ys (replicate (cap - length ys) z) ∙ omega (arith, length-replicate (cap - length ys) z)

  pub rest_left : length ys ≤ cap → Rest z m after
  rest_left fits =
      let l : length after ≡ cap = length_left fits in
      record { fits = omega (arith, h.len_is); zeros = (λ i. drop (h.len_is i) (h.rows_is i)) ∙ drop_at ys (replicate (cap - length ys) z) (length ys) refl ∙ (λ i. replicate (sym l i - sym h.len_is i) z) }

-- what was stored is left, and there was room for it
pub stored_left : {X : Type 0} {z : X} {n : ℕ} {rows ys : List X} {new : Bool} {m : ℕ} {after : List X} → Stored z n rows ys new m after → Left z (length rows) ys m after
stored_left s = record { len_is = s.len_is; rows_is = s.rows_is }

module _ {X : Type 0} (pick : X → X → X) {k : Kind X} {text : List ℕ} {n : ℕ} {rows : List X} (held : Holds k text n rows) (t : TotalOrder k.order) (kept : (r x : X) → k.key text r ≡ k.key text x → k.key text (pick r x) ≡ k.key text x) (r : X) where
  abbrev Left_in : {E : Type 0} → Result Bool E → ℕ → List X → Type 0
  Left_in = Entered k.zero n rows (enter_row pick k.order (k.key text) r (take n rows))

  holds : {E : Type 0} (a : Result Bool E) (m : ℕ) (after : List X) → Left_in a m after → Holds k text m after
  holds (Ok new) m after h = record {
    ordered = subst (InOrder k.order (k.key text)) (sym (take_left (stored_left h))) (ordered_entered k.order (k.key text) t pick kept r (take n rows) held.ordered);
    rest = rest_left (stored_left h) h.room;
  }
  holds (Err e) m after h = subst (λ i. Holds k text i after) (sym h.len_is) (subst (Holds k text n) (sym h.rows_is) held)

  shape : (p : Result ℕ ℕ) → p ≡ place k.order (k.key text r) (map (k.key text) (take n rows)) → Shaped pick r (take n rows) (enter_row pick k.order (k.key text) r (take n rows)) p
  shape p e = subst (Shaped pick r (take n rows) (enter_row pick k.order (k.key text) r (take n rows))) (sym e) (shaped pick r k.order (k.key text) (take n rows))

  pub at_new_place : {E : Type 0} (i : ℕ) → Err i ≡ place k.order (k.key text r) (map (k.key text) (take n rows)) → (a : Result Bool E) (m : ℕ) (after : List X) → Entered k.zero n rows (insert (take n rows) i r) a m after → Left_in a m after × Holds k text m after
  at_new_place i e a m after h = let left = subst (λ ys. Entered k.zero n rows ys a m after) (sym (shape (Err i) e)) h in (left, holds a m after left)

  pub in_its_place : (i : ℕ) → Ok i ≡ place k.order (k.key text r) (map (k.key text) (take n rows)) → i < n → Stored k.zero n rows (enter_row pick k.order (k.key text) r (take n rows)) false n (set rows i (pick r (get_or rows i r))) × Holds k text n (set rows i (pick r (get_or rows i r)))
  in_its_place i e lt =
      let left = replaces held.rest i (pick r (get_or rows i r)) _ lt (shape (Ok i) e ∙ ap (λ x. set (take n rows) i (pick r x)) (get_or-take n rows i r lt)) in
      (left, holds {E = ℕ} (Ok false) n (set rows i (pick r (get_or rows i r))) left)
