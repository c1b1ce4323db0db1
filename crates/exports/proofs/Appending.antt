-- Appending in steps: after one that was accepted the rest follows, and after one that was refused the rest is cut off.
use Rattle.std.proofs.Common.{◌≡◌, ◌<◌, ◌≤◌, true, false, leb, List, [], ◌++◌, length, take, is_ok, is_err, Ok, Err, Result, sym, refl, ap, ◌∙◌, subst, append_assoc, append-nil, arith}
use borrow.Author.Tests.{true-leb, false-leb, lt-false, le-true}
use Rattle.std.proofs.lemmas.List.{length-append, length-take, length-take-le, take_all, take-append-le}
use Rattle.table.specs.Kind.{Appended, Extended, Leaves, capacity, held}
use Rattle.table.specs.Kinds.{places}
use Rattle.table.proofs.Entered.{as_they_are, length_left, take_left}
use Rattle.table.specs.declared.table.Full.{Full}
use Rattle.table.specs.declared.table.OrderedTable.{OrderedTable}
use Rattle.text.specs.declared.place.Place.{Place}
use Rattle.exports.specs.declared.append.PlaceList.{PlaceList}
use Rattle.exports.specs.Append.{Lists}

pub capacity_after : (ys : List Place) (s t : OrderedTable Place) → Extended places ys s t → capacity t ≡ capacity s
capacity_after ys s t x = length_left x.rows (omega (arith, length-take (capacity s) (held s ++ ys)))

-- all was appended
pub leaves_whole : (ys : List Place) (s t : OrderedTable Place) → Appended places ys s (Ok tt) t → Leaves places (held s ++ ys) s t
leaves_whole ys s t a = subst (λ l. Leaves places l s t) (take_all (capacity s) (held s ++ ys) (true-leb _ _ a.answer)) a.table

pub held_whole : (ys : List Place) (s t : OrderedTable Place) → Appended places ys s (Ok tt) t → held t ≡ held s ++ ys
held_whole ys s t a = take_left (leaves_whole ys s t a).rows

-- nothing is appended
pub nothing_listed : (s : PlaceList) → Lists [] s (Ok tt) s
nothing_listed s =
    let xs = held s.table.now in
    let fits : length xs ≤ capacity s.table.now = omega (arith, s.ready.fits, length-take-le s.table.now.len s.table.now.rows.now s.ready.fits) in
    let all : take (capacity s.table.now) (xs ++ []) ≡ xs = rw append-nil (take_all (capacity s.table.now) xs fits) in
    record {
      appended = record { answer = rw append-nil (le-true _ _ fits); table = record { rows = rw all (as_they_are s.ready); lender = refl } };
      same = refl;
    }

pub none_listed : (ys : List Place) (s : PlaceList) → ys ≡ [] → Lists ys s (Ok tt) s
none_listed ys s none = rw none (nothing_listed s)

module _ (ys zs : List Place) (s t : PlaceList) where
  pub more_listed : (u : PlaceList) (r : Result (Unit {0}) Full) → Lists ys s (Ok tt) t → Lists zs t r u → Lists (ys ++ zs) s r u
  more_listed u r a b =
      let room : capacity t.table.now ≡ capacity s.table.now = capacity_after ys _ _ a.appended.table in
      let all : held t.table.now ++ zs ≡ held s.table.now ++ (ys ++ zs) = ap (λ l. l ++ zs) (held_whole ys _ _ a.appended) ∙ append_assoc (held s.table.now) ys zs in
      let table : Extended places (ys ++ zs) s.table.now u.table.now = record {
        rows = rw (← all, ← room) b.appended.table.rows;
        lender = b.appended.table.lender ∙ a.appended.table.lender;
      } in
      record {
        appended = record { answer = b.appended.answer ∙ (λ i. leb (length (all i)) (room i)); table = table };
        same = b.same ∙ a.same;
      }

  refused : (r : Result (Unit {0}) Full) → is_err r ≡ true → is_ok r ≡ false
  refused (Ok x) e = sym e
  refused (Err x) e = refl

  pub cut_off : (e : Full) (r : Result (Unit {0}) Full) → Lists ys s (Err e) t → is_err r ≡ true → Lists (ys ++ zs) s r t
  cut_off e r a err =
      let cap = capacity s.table.now in
      let front = held s.table.now ++ ys in
      let over : cap < length front = false-leb _ _ a.appended.answer in
      let all : front ++ zs ≡ held s.table.now ++ (ys ++ zs) = append_assoc (held s.table.now) ys zs in
      let longer : cap < length (held s.table.now ++ (ys ++ zs)) = omega (arith, over, length-append front zs, ap length all) in
      let same : take cap front ≡ take cap (held s.table.now ++ (ys ++ zs)) = sym (take-append-le cap front zs (omega arith)) ∙ ap (take cap) all in
      record {
        appended = record { answer = refused r err ∙ lt-false _ _ longer; table = subst (λ l. Leaves places l s.table.now t.table.now) same a.appended.table };
        same = a.same;
      }
