-- The search for a surrogate over the windows of two bytes.
use Rattle.std.proofs.Common.{◌≡◌, ℕ, Bool, false, ◌||◌, List, [], ◌∷◌, length, drop, take, sym, refl, ap, ◌∙◌, arith}
use Rattle.std.specs.Prelude.{◌==◌}
use Rattle.std.proofs.lemmas.Bool.{and_right}
use denote.Param.Members.{Mut}
use denote.Ref.{Bor}
use Rattle.std.specs.Fn.{Called}
use Rattle.std.specs.Iterator.{AlwaysYields, ChecksAny}
use Rattle.std.specs.List.{list_any}
use Rattle.std.specs.Slice.Iter.{windows_rest, windows_size, windows_steps}
use Rattle.std.specs.declared.slice.Windows.{Windows}
use Rattle.std.proofs.lemmas.Iterator.{YieldsList}
use Rattle.std.proofs.lemmas.Iterator.Search.{any_from_yields_List}
use Rattle.text.specs.Reading.{begins, begun, marked}

-- the windows of two bytes
abbrev pairs : List ℕ → List (List ℕ)
pairs [] = []
pairs (a ∷ []) = []
pairs (a ∷ b ∷ bs) = (a ∷ b ∷ []) ∷ pairs (b ∷ bs)

yields_pairs : (s : Windows ℕ) (xs : List ℕ) → windows_rest s ≡ xs → windows_size s ≡ 2 → AlwaysYields windows_steps (λ w. w.now) s (pairs xs)
yields_pairs s [] e two = λ w t h. omega (arith, ap length e, h.1.0)
yields_pairs s (a ∷ []) e two = λ w t h. omega (arith, ap length e, h.1.0)
yields_pairs s (a ∷ b ∷ bs) e two = (
  (λ t h. omega (arith, ap length e, h.1.0)),
  λ w t h. (h.1.1 ∙ (λ i. take (two i) (e i)), yields_pairs t (b ∷ bs) (h.1.2 ∙ ap (drop 1) e) (h.0 ∙ two)),
)

marked_by_pairs : (xs : List ℕ) → list_any begun (pairs xs) ≡ marked xs
marked_by_pairs [] = refl
marked_by_pairs (a ∷ []) = sym (ap (λ t. t || false) (and_right (a == 237) false refl))
marked_by_pairs (a ∷ b ∷ bs) = ap (λ t. begins a (b ∷ bs) || t) (marked_by_pairs (b ∷ bs))

-- a surrogate occurs where some window of two bytes begins with one
pub marked_from_any : {F : Type 0} {g : Mut F (Bor (List ℕ) × Unit {0}) Bool} {s : Windows ℕ} (u : Windows ℕ) (f : F) (r : Bool) (xs : List ℕ)
    → ChecksAny windows_steps g s f r u → windows_rest s ≡ xs → windows_size s ≡ 2
    → ((w : Bor (List ℕ)) (b : Bool) (q : F) → Called g f (w, tt) b q → (q ≡ f) × (b ≡ begun w.now)) → r ≡ marked xs
marked_from_any {s = s} u f r xs ran e two tells =
    let yielded : YieldsList windows_steps (λ w. w.now) s (pairs xs) = record { runs = yields_pairs s xs e two } in
    any_from_yields_List begun u f r ran yielded tells ∙ marked_by_pairs xs
