-- Rows of which the first are kept, and the rest zeroed.
use Rattle.std.proofs.Common.{◌≡◌, ℕ, ◌-◌, ◌≤◌, Bool, List, ◌++◌, length, take, drop, filter, replicate, sym, ap, ◌∙◌, subst, arith}
use borrow.Rule.Slice.PartMut.{put_mid}
use Rattle.std.proofs.lemmas.List.Sums.{count_by-le-length, length-filter}
use Rattle.std.proofs.lemmas.List.{append-nil, drop_all, length-append, length-drop, length-take-le, take-append-le}
use Rattle.table.specs.Kind.{Holds, Kind}
use Rattle.table.specs.Table.{InOrder, Left}
use Rattle.table.proofs.Entered.{rest_left, take_left}
use Rattle.table.proofs.Rising.{ordered_kept}

-- after each row of rows[k..] became z
filled : {X : Type 0} (rows part : List X) (k : ℕ) (z : X) → k ≤ length rows → part ≡ replicate (length (take (length rows - k) (drop k rows))) z → put_mid k (length rows - k) rows part ≡ take k rows ++ replicate (length rows - k) z
filled rows part k z le is =
    let l : length (take (length rows - k) (drop k rows)) ≡ length rows - k = length-take-le (length rows - k) (drop k rows) (omega (arith, length-drop k rows)) in
    ap (λ q. take k rows ++ q) ((λ i. is i ++ drop_all (length rows - k) (drop k rows) (omega (arith, length-drop k rows)) i) ∙ append-nil _ ∙ (λ i. replicate (l i) z))

-- the first k of the rows in front are kept, and each that follows becomes z
pub left_by : {X : Type 0} (rows front kept part : List X) (n k : ℕ) (z : X) → n ≤ length rows → length front ≡ n → k ≤ length front → take k front ≡ kept → part ≡ replicate (length (take (length (front ++ drop n rows) - k) (drop k (front ++ drop n rows)))) z → Left z (length rows) kept k (put_mid k (length (front ++ drop n rows) - k) (front ++ drop n rows) part)
left_by rows front kept part n k z fits long le first is =
    let m : length (front ++ drop n rows) ≡ length rows = omega (arith, length-append front (drop n rows), length-drop n rows) in
    let l : length kept ≡ k = sym (ap length first) ∙ length-take-le k front le in
    record {
      len_is = sym l;
      rows_is = filled (front ++ drop n rows) part k z (omega arith) is ∙ (λ i. (take-append-le k front (drop n rows) le ∙ first) i ++ replicate (m i - sym l i) z);
    }

-- a table of which some rows are kept holds
pub holds_kept : {X : Type 0} {k : Kind X} {text : List ℕ} {n : ℕ} {rows : List X} (held : Holds k text n rows) (p : X → Bool) (m : ℕ) (after : List X) → Left k.zero (length rows) (filter p (take n rows)) m after → Holds k text m after
holds_kept {k = k} {text} {n} {rows} held p m after left = record {
  ordered = subst (InOrder k.order (k.key text)) (sym (take_left left)) (ordered_kept k.order (k.key text) p (take n rows) held.ordered);
  rest = rest_left left (omega (arith, length-filter p (take n rows), count_by-le-length p (take n rows), length-take-le n rows held.rest.fits, held.rest.fits));
}
