-- The rows of a walk decide its acts.
use Rattle.std.proofs.Common.{◌≡◌, ℕ, ◌<◌, ◌≤◌, ◌↔◌, Result, List, [], ◌∷◌, ◌++◌, sym, refl, ap, ◌∙◌, subst, inl, inr, ⊎_elim, arith, append_assoc}
use Rattle.tree.specs.declared.row.Row.{Row}
use Rattle.findings.specs.Tables.{Found, Room}
use Rattle.cjs_law.specs.declared.event.Event.{Event}
use Rattle.cjs_law.specs.Events.{events}
use Rattle.cjs_law.specs.Findings.{Outcome, outcome}
use Rattle.cjs_law.specs.Lists.{In}
use Rattle.cjs_law.specs.Rows.{ActsAt, ActsOfRows, LawfulEnds, UnderNoSkippedRow, WalkedRowsDecideTheActs, visit_at}
use Rattle.cjs_law.specs.Walk.{Act, Visit, acts_at, acts_from, acts_of, bound, walk}
use Rattle.cjs_law.proofs.Bound.{bound_to}
use Rattle.cjs_law.proofs.Decided.{acts_decide_the_lists}
use Rattle.cjs_law.proofs.Members.{in_either, in_right}
use Rattle.cjs_law.proofs.Splits.{back, front}
use Rattle.cjs_law.proofs.WalkedRows.{Rising, walk_comes, walk_comes_to, walk_rises, walk_rising, walked_rows_are_those_under_no_skipped_row}

at_row : (j : ℕ) (es : List Event) (a : Act) → In a (acts_at j es) → a.row ≡ j
at_row j [] a i = absurd i
at_row j (e ∷ es) a (inl q) = ap (λ (z : Act). z.row) q
at_row j (e ∷ es) a (inr i) = at_row j es a i

-- a list is cut in one way into acts at rows below n and acts at rows from n on
cut_once : (n : ℕ) (b r d s : List Act) → b ++ r ≡ d ++ s → ((a : Act) → In a b → a.row < n) → ((a : Act) → In a r → n ≤ a.row) → ((a : Act) → In a d → a.row < n) → ((a : Act) → In a s → n ≤ a.row) → (b ≡ d) × (r ≡ s)
cut_once n [] r [] s e lb lr ld ls = (refl, e)
cut_once n [] r (y ∷ d) s e lb lr ld ls =
    let low = ld y (inl refl) in
    let high = lr y (subst (In y) (sym e) (inl refl)) in
    absurd (omega arith)
cut_once n (x ∷ b) r [] s e lb lr ld ls =
    let low = lb x (inl refl) in
    let high = ls x (subst (In x) e (inl refl)) in
    absurd (omega arith)
cut_once n (x ∷ b) r (y ∷ d) s e lb lr ld ls =
    let q = cut_once n b r d s (ap back e) (λ a i. lb a (inr i)) lr (λ a i. ld a (inr i)) ls in
    ((λ i. ap (front x) e i ∷ q.0 i), q.1)

module _ (T : List ℕ) where
  abbrev here : List Act → Visit → List Act
  here done v = acts_at v.number (events T (bound T done) v.row v.kids)

  from_visits : (done : List Act) (vs : List Visit) (a : Act) → In a (acts_from T done vs) → (v : Visit) × In v vs × (a.row ≡ v.number)
  from_visits done [] a i = absurd i
  from_visits done (v ∷ vs) a i =
      ⊎_elim
      (λ k. (v, inl refl, at_row v.number (events T (bound T done) v.row v.kids) a k))
      (λ k. let (w, m, e) = from_visits (done ++ here done v) vs a k in (w, inr m, e))
      (in_either a (here done v) (acts_from T (done ++ here done v) vs) i)

  -- these acts are at rows before those of the visits
  abbrev Before : List Act → List Visit → Type 0
  Before done vs = (a : Act) → In a done → (v : Visit) → In v vs → a.row < v.number

  before_on : (done : List Act) (v : Visit) (vs : List Visit) → Rising (v ∷ vs) → Before done (v ∷ vs) → Before (done ++ here done v) vs
  before_on done v vs r b a i w k =
      ⊎_elim
      (λ x. b a x w (inr k))
      (λ x. let e = at_row v.number (events T (bound T done) v.row v.kids) a x in let up = r.0 w k in omega arith)
      (in_either a done (here done v) i)

  at_visits : (vs : List Visit) (done : List Act) → Rising vs → Before done vs → (v : Visit) → In v vs → ActsAt T (done ++ acts_from T done vs) v
  at_visits [] done r b v i = absurd i
  at_visits (w ∷ vs) done r b v (inl e) =
      subst (ActsAt T (done ++ acts_from T done (w ∷ vs))) (sym e)
      (record {
        before = done;
        after = acts_from T (done ++ here done w) vs;
        split = sym (append_assoc done (here done w) (acts_from T (done ++ here done w) vs));
        earlier = λ a k. b a k w (inl refl);
        later = λ a k. let (x, m, q) = from_visits (done ++ here done w) vs a k in let up = r.0 x m in omega arith;
      })
  at_visits (w ∷ vs) done r b v (inr i) =
      subst (λ l. ActsAt T l v) (append_assoc done (here done w) (acts_from T (done ++ here done w) vs))
      (at_visits vs (done ++ here done w) r.1 (before_on done w vs r b) v i)

  -- acts of which each is at one of these visits
  abbrev AtSome : List Act → List Visit → Type 0
  AtSome acts vs = (a : Act) → In a acts → (v : Visit) × In v vs × (a.row ≡ v.number)

  -- the acts at the first of some visits come first, and the others are at the other visits
  cut : (v : Visit) (vs : List Visit) (done rest acts : List Act) → acts ≡ done ++ rest → Rising (v ∷ vs) → Before done (v ∷ vs) → AtSome rest (v ∷ vs) → ActsAt T acts v → (after : List Act) × (rest ≡ here done v ++ after) × AtSome after vs
  cut v vs done rest acts e r b only c = (c.after, parts, only_after)
    where
      not_before : (a : Act) → In a rest → v.number ≤ a.row
      not_before a i =
          let (w, m, q) = only a i in
          ⊎_elim
          (λ x. let y : w.number ≡ v.number = ap (λ (z : Visit). z.number) x in omega arith)
          (λ x. let up = r.0 w x in omega arith)
          m

      from_here : (a : Act) → In a (here c.before v ++ c.after) → v.number ≤ a.row
      from_here a i =
          ⊎_elim
          (λ x. let y = at_row v.number (events T (bound T c.before) v.row v.kids) a x in omega arith)
          (λ x. let y = c.later a x in omega arith)
          (in_either a (here c.before v) c.after i)

      cuts : (done ≡ c.before) × (rest ≡ here c.before v ++ c.after)
      cuts = cut_once v.number done rest c.before (here c.before v ++ c.after) (sym e ∙ c.split ∙ append_assoc c.before (here c.before v) c.after) (λ a i. b a i v (inl refl)) not_before c.earlier from_here

      parts : rest ≡ here done v ++ c.after
      parts = cuts.1 ∙ ap (λ d. here d v ++ c.after) (sym cuts.0)

      only_after : AtSome c.after vs
      only_after a i =
          let (w, m, q) = only a (subst (In a) (sym parts) (in_right a (here done v) c.after i)) in
          ⊎_elim
          (λ x. let y : w.number ≡ v.number = ap (λ (z : Visit). z.number) x in let up = c.later a i in absurd (omega arith))
          (λ x. (w, x, q))
          m

  -- acts that are at each of these visits what is asked for there, and at no other, are those of the walk
  one_from : (vs : List Visit) (done rest acts : List Act) → acts ≡ done ++ rest → Rising vs → Before done vs → AtSome rest vs → ((v : Visit) → In v vs → ActsAt T acts v) → rest ≡ acts_from T done vs
  one_from [] done [] acts e r b only at = refl
  one_from [] done (a ∷ rest) acts e r b only at = absurd (only a (inl refl)).1
  one_from (v ∷ vs) done rest acts e r b only at =
      let (after, parts, others) = cut v vs done rest acts e r b only (at v (inl refl)) in
      let split : acts ≡ (done ++ here done v) ++ after = e ∙ ap (λ l. done ++ l) parts ∙ sym (append_assoc done (here done v) after) in
      parts
      ∙ ap (λ l. here done v ++ l) (one_from vs (done ++ here done v) after acts split r.1 (before_on done v vs r b) others (λ w k. at w (inr k)))

module _ (T : List ℕ) (rs : List Row) (ends : LawfulEnds rs) where
  made : ActsOfRows T rs (acts_of T rs)
  made = record {
    at = λ j u. at_visits T (walk rs) [] (walk_rising rs ends) (λ a i. absurd i) (visit_at rs j) (walk_comes_to rs ends (visit_at rs j) u refl);
    only = λ a i. let (v, m, e) = from_visits T [] (walk rs) a i in subst (UnderNoSkippedRow rs) (sym e) (walk_comes rs ends v m).0;
  }

  so_made : (acts : List Act) → ActsOfRows T rs acts → acts ≡ acts_of T rs
  so_made acts h =
      one_from T (walk rs) [] acts acts refl (walk_rising rs ends) (λ a i. absurd i)
      (λ a i. (visit_at rs a.row, walk_comes_to rs ends (visit_at rs a.row) (h.only a i) refl, refl))
      (λ v i. let w = walk_comes rs ends v i in subst (ActsAt T acts) (sym w.1) (h.at v.number w.0))

  comes_to : (room : Room) (r : Result Found ℕ) → (outcome T room (acts_of T rs) ≡ r) ↔ ((acts : List Act) × ActsOfRows T rs acts × Outcome T room acts r)
  comes_to room r =
      let said = acts_decide_the_lists.outcome T room (acts_of T rs) in (
        (λ e. (acts_of T rs, made, subst (Outcome T room (acts_of T rs)) e said)),
        (λ (acts, h, o). acts_decide_the_lists.one T room (acts_of T rs) (outcome T room (acts_of T rs)) r said (subst (λ l. Outcome T room l r) (so_made acts h) o)),
      )

pub walked_rows_decide_the_acts : WalkedRowsDecideTheActs
walked_rows_decide_the_acts = record {
  rows = walked_rows_are_those_under_no_skipped_row;
  rises = walk_rises;
  acts = λ T rs ends acts. (so_made T rs ends acts, λ e. subst (ActsOfRows T rs) (sym e) (made T rs ends));
  bound = bound_to;
  outcome = λ T room rs ends r. comes_to T rs ends room r;
}
