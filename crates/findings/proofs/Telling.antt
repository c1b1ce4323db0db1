-- The first child that tells decides the script test.
use Rattle.std.proofs.Common.{◌≡◌, ℕ, ◌+◌, ◌<◌, ◌≤◌, Bool, true, false, cond, not, ◌⊎◌, List, sym, refl, ap, ◌∙◌, subst, inl, inr, ⊎_elim, true≢false, arith}
use Rattle.std.proofs.lemmas.Bool.{cond-false, cond-true}
use Rattle.tree.specs.declared.row.Row.{Row}
use Rattle.tree.specs.Enclosure.{Carries, Rises, Stands}
use Rattle.tree.specs.Forest.{Forest, children, nil, node, row_at}
use Rattle.tree.proofs.Direct.{children_are_enclosed_directly, children_carry_their_rows, children_stand_in_order}
use Rattle.findings.specs.Script.{FirstTellingChildDecides, Tells, first_shows, shows_module, shows_script}

-- a row that stands at the top of a tree has no lower number than that from which they rise
pub rising : (f : Forest) (from c : ℕ) → Rises from f → Stands c f → from ≤ c
rising nil from c r s = absurd s
rising (node j row kids siblings) from c r s = ⊎_elim (λ e. omega (arith, r.0)) (λ t. omega (arith, r.0, rising siblings (j + 1) c r.1 t)) s

module _ (rs : List Row) where
  abbrev kind : ℕ → ℕ
  kind c = (row_at rs c).kind

  -- the answer by what the first row shows
  by_shown : (m s : Bool) (rest : Bool) → (m ≡ true) ⊎ (s ≡ true) → cond m false (cond s true rest) ≡ not m
  by_shown true s rest t = refl
  by_shown false true rest t = refl
  by_shown false false rest t = absurd (⊎_elim (λ e. true≢false (sym e)) (λ e. true≢false (sym e)) t)

  silent : (m s : Bool) (rest : Bool) → ((m ≡ true) ⊎ (s ≡ true) → ⊥) → cond m false (cond s true rest) ≡ rest
  silent true s rest n = absurd (n (inl refl))
  silent false true rest n = absurd (n (inr refl))
  silent false false rest n = refl

  first : (f : Forest) (from c : ℕ) → Rises from f → Carries rs f → Stands c f → Tells rs c → ((i : ℕ) → Stands i f → i < c → Tells rs i → ⊥) → first_shows f ≡ not (shows_module (kind c))
  first nil from c r k s t before = absurd s
  first (node j row kids siblings) from c r k s t before =
      let here : (l : ℕ) → l ≡ j → shows_module (kind l) ≡ shows_module row.kind = λ l e. ap (λ i. shows_module (kind i)) e ∙ ap (λ x. shows_module x.kind) (sym k.0) in
      ⊎_elim
      (λ e.
      let told : (shows_module row.kind ≡ true) ⊎ (shows_script row.kind ≡ true) = subst (λ x. (shows_module x.kind ≡ true) ⊎ (shows_script x.kind ≡ true)) (ap (row_at rs) e ∙ sym k.0) t in
      by_shown (shows_module row.kind) (shows_script row.kind) (first_shows siblings) told ∙ ap not (sym (here c e)))
      (λ later.
      let above : j + 1 ≤ c = rising siblings (j + 1) c r.1 later in
      let quiet : (shows_module row.kind ≡ true) ⊎ (shows_script row.kind ≡ true) → ⊥ = λ u. before j (inl refl) (omega arith) (subst (λ x. (shows_module x.kind ≡ true) ⊎ (shows_script x.kind ≡ true)) k.0 u) in
      silent (shows_module row.kind) (shows_script row.kind) (first_shows siblings) quiet
      ∙ first siblings (j + 1) c r.1 k.2 later t (λ i i-stands lt tells. before i (inr i-stands) lt tells))
      s

  none : (f : Forest) → Carries rs f → ((i : ℕ) → Stands i f → Tells rs i → ⊥) → first_shows f ≡ false
  none nil k quiet = refl
  none (node j row kids siblings) k quiet =
      silent (shows_module row.kind) (shows_script row.kind) (first_shows siblings)
      (λ u. quiet j (inl refl) (subst (λ x. (shows_module x.kind ≡ true) ⊎ (shows_script x.kind ≡ true)) k.0 u))
      ∙ none siblings k.2 (λ i s t. quiet i (inr s) t)

pub first_telling_child_decides : FirstTellingChildDecides
first_telling_child_decides = record {
  first = λ rs law module-mark c child tells before.
      cond-false _ _ _ module-mark
      ∙ first rs (children rs 0) 1 c (children_stand_in_order rs law 0) (children_carry_their_rows rs law 0) ((children_are_enclosed_directly rs law 0 c).1 child) tells
      (λ i s lt t. before i ((children_are_enclosed_directly rs law 0 i).0 s) lt t);
  none = λ rs law module-mark quiet.
      cond-false _ _ _ module-mark ∙ none rs (children rs 0) (children_carry_their_rows rs law 0) (λ i s t. quiet i ((children_are_enclosed_directly rs law 0 i).0 s) t);
  script = λ rs mark. cond-true _ _ _ mark;
}
