-- Rows that are all one row.
use Rattle.std.proofs.Common.{◌≡◌, ℕ, suc, ◌<◌, Bool, true, false, List, [], ◌∷◌, length, get_or, replicate, Decides, sym, refl, ap, ◌∙◌, true≢false, arith}
use Rattle.std.specs.Bool.{MatchBool}
use Rattle.std.specs.List.{AllWithin, FoldsTo, HoldsAt}
use Rattle.std.proofs.lemmas.List.{get_or-replicate}

module _ {X : Type 0} (z : X) where
  all_one : (xs : List X) → AllWithin (λ x. x ≡ z) xs 0 (length xs) → xs ≡ replicate (length xs) z
  all_one [] h = refl
  all_one (x ∷ xs) h = λ i. h 0 x (omega arith) (omega arith) i ∷ all_one xs (λ k d a l. h (suc k) d (omega arith) (omega arith)) i

  -- whether a test of each row for z passes says whether they are all z
  pub zeros_by_all : (xs : List X) (r : Bool) → MatchBool r (AllWithin (λ x. x ≡ z) xs 0 (length xs)) ((k : ℕ) × (k < length xs) × HoldsAt (λ x. x ≡ z → ⊥) xs k) → (n : ℕ) → length xs ≡ n → Decides r (xs ≡ replicate n z)
  zeros_by_all xs true h n long = ((λ e. all_one xs h ∙ ap (λ m. replicate m z) long), λ e. refl)
  zeros_by_all xs false h n long = ((λ e. absurd (true≢false (sym e))), λ e. absurd (h.2 z (ap (λ l. get_or l h.0 z) e ∙ get_or-replicate n h.0 z z (omega (arith, h.1)))))

-- rows that were each made by a call that gives z
pub all_made : {X P : Type 0} (call : P → X → P → Type 0) (z : X) (xs : List X) (p q : P) → ((p : P) (x : X) (q : P) → call p x q → x ≡ z) → FoldsTo call p xs q → xs ≡ replicate (length xs) z
all_made call z [] p q made h = refl
all_made call z (x ∷ xs) p q made h = λ i. made p x h.0 h.1 i ∷ all_made call z xs h.0 q made h.2 i
