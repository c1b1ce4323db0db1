-- The children of a row, tested place by place.
use Rattle.std.proofs.Common.{◌≡◌, ℕ, ◌+◌, ◌<◌, ◌≤◌, Bool, true, false, List, [], ◌∷◌, length, get_or, Some, None, Option, sym, ap, ◌∙◌, subst, true≢false, arith}
use Rattle.std.specs.Bool.{MatchBool}
use Rattle.std.specs.Iterator.{AlwaysYields}
use Rattle.std.specs.List.{AllWithin, HoldsAt, enumerate_from}
use Rattle.std.proofs.lemmas.Bool.{false_from_ne_true}
use Rattle.std.proofs.lemmas.Iterator.{YieldsList}
use Rattle.std.proofs.lemmas.List.FromFn.{get_or-enumerate_from, length-enumerate_from}
use Rattle.kinds.specs.Shape.{has}
use Rattle.tree.specs.declared.child_rows.ChildRows.{ChildRows}
use Rattle.tree.specs.declared.row.Row.{Row}
use Rattle.tree.specs.Block.{rows_of}
use Rattle.tree.specs.ChildRows.{GivesRow, from, rest, still}
use Rattle.tree.specs.Forest.{row_at}
use Rattle.tree.specs.Shaped.{children_fit, group_at, kinds_of, may_have}
use Rattle.tree.proofs.Positions.{children_fit_by_place}
use Rattle.tree.proofs.Sections.{counted}

from_most : (n : ℕ) (o : Option ℕ) → from n o ≤ n
from_most n None = omega arith
from_most n (Some c) = omega arith

pub still_few : (it : ChildRows) → still it ≤ 65536
still_few it =
    let few = it.rows.rows.few in
    omega (arith, counted it.rows.rows.bytes.now, from_most (length (rows_of it.rows.rows)) it.next)

abbrev pub kind_of : List Row → ℕ → ℕ
kind_of rs c = (row_at rs c).kind

kinds_come : (rs : List Row) (ks : List ℕ) (it : ChildRows) → kinds_of (rest it) ≡ ks → rows_of it.rows.rows ≡ rs → AlwaysYields GivesRow (kind_of rs) it ks
kinds_come rs [] it e same = λ x after comes. let w = sym (ap kinds_of comes.first) ∙ e in absurd (cc)
kinds_come rs (k ∷ ks) it e same = (
  (λ after ends. let w = sym (ap kinds_of ends.0) ∙ e in absurd (cc)),
  λ x after comes.
      let w : kind_of (rows_of it.rows.rows) x ∷ kinds_of (rest after) ≡ k ∷ ks = sym (ap kinds_of comes.first) ∙ e in
      let here : kind_of (rows_of it.rows.rows) x ≡ k = cc in
      let later : kinds_of (rest after) ≡ ks = cc in
      (ap (λ rs. kind_of rs x) (sym same) ∙ here, kinds_come rs ks after later (ap (λ r. rows_of r.rows) comes.rows ∙ same)),
)

pub kinds_listed : (rs : List Row) (ks : List ℕ) (it : ChildRows) → rows_of it.rows.rows ≡ rs → kinds_of (rest it) ≡ ks → YieldsList GivesRow (kind_of rs) it ks
kinds_listed rs ks it same e = record { runs = kinds_come rs ks it e same }

-- the test of the child at a place, of this kind
abbrev pub Passes : Row → ℕ → Bool → ℕ × ℕ → Type 0
Passes r n b x = has (group_at r x.0 n) x.1 ≡ b

passes_at : (r : Row) (n : ℕ) (ks : List ℕ) (p : ℕ) (b : Bool) → p < length ks → Passes r n b (get_or (enumerate_from 0 ks) p (0, 0)) → has (group_at r p n) (get_or ks p 0) ≡ b
passes_at r n ks p b h t =
    let z : 0 + p ≡ p = omega arith in
    subst (λ q. has (group_at r q n) (get_or ks p 0) ≡ b) z (subst (Passes r n b) (get_or-enumerate_from 0 ks p (0, 0) h) t)

-- children that a row may have fit it where each passes the test of its place
pub all_fit : (r : Row) (n : ℕ) (ks : List ℕ) (b : Bool) → n ≡ length ks → may_have r.kind n ≡ true → MatchBool b (AllWithin (Passes r n true) (enumerate_from 0 ks) 0 (length (enumerate_from 0 ks))) ((k : ℕ) × (k < length (enumerate_from 0 ks)) × HoldsAt (Passes r n false) (enumerate_from 0 ks) k) → b ≡ children_fit r ks
all_fit r n ks true e m all =
    let l = length-enumerate_from 0 ks in
    sym
    ((children_fit_by_place r ks).1
    (subst (λ n. may_have r.kind n ≡ true) e m, λ p h. subst (λ n. has (group_at r p n) (get_or ks p 0) ≡ true) e (passes_at r n ks p true h (all p (0, 0) (omega arith) (omega arith)))))
all_fit r n ks false e m (k, l, fails) =
    let h : k < length ks = omega (arith, length-enumerate_from 0 ks) in
    sym (false_from_ne_true (children_fit r ks)
    (λ yes. true≢false (sym (subst (λ n. has (group_at r k n) (get_or ks k 0) ≡ true) (sym e) (((children_fit_by_place r ks).0 yes).1 k h)) ∙ passes_at r n ks k false h (fails (0, 0)))))

pub none_fit : (r : Row) (n : ℕ) (ks : List ℕ) → n ≡ length ks → may_have r.kind n ≡ false → false ≡ children_fit r ks
none_fit r n ks e m = sym (false_from_ne_true (children_fit r ks) (λ yes. true≢false (sym ((children_fit_by_place r ks).0 yes).0 ∙ sym (ap (may_have r.kind) e) ∙ m)))

-- a row under another name of its kind
abbrev pub named : ℕ → Row → Row
named kind r = record { kind = kind; mark = r.mark; offset = r.offset; length = r.length; end = r.end }

pub named_is : (kind : ℕ) (r s : Row) → kind ≡ s.kind → r ≡ s → named kind r ≡ s
named_is kind r s k e = λ i. record { kind = k i; mark = (e i).mark; offset = (e i).offset; length = (e i).length; end = (e i).end }
