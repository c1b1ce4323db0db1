-- A search over the modules comes to the lowest one with a path.
use Rattle.std.proofs.Common.{◌≡◌, ℕ, zero, suc, ◌+◌, ◌<◌, Bool, true, false, cond, List, Option, Some, MatchOption, refl, sym, ◌∙◌, subst, true≢false, below_more, arith}
use Rattle.std.specs.List.{find, range_with_len}
use Rattle.std.specs.Str.{bytes_eq}
use Rattle.std.proofs.lemmas.Slice.Eq.{bytes_eq-Decides}
use Rattle.path_shelf.specs.Lowest.{IsLowest, LowestAnswers, NoneBelow}
use Rattle.path_shelf.specs.Paths.{module_count, path_of}

module _ (bytes path : List ℕ) where
  abbrev test : ℕ → Bool
  test m = bytes_eq (path_of bytes m) path

  abbrev Answers : Option ℕ → Type 0
  Answers found = MatchOption found (NoneBelow bytes path (module_count bytes)) (IsLowest bytes path)

  differs : (m : ℕ) → test m ≡ false → path_of bytes m ≡ path → ⊥
  differs m e same = true≢false (sym ((bytes_eq-Decides (path_of bytes m) path).1 same) ∙ e)

  here : (b : Bool) (m : ℕ) (later : Option ℕ) → test m ≡ b → m < module_count bytes → NoneBelow bytes path m → (NoneBelow bytes path (m + 1) → Answers later) → Answers (cond b (Some m) later)
  here true m later e h none rest = record { inside = h; has = (bytes_eq-Decides (path_of bytes m) path).0 e; none_below = none }
  here false m later e h none rest = rest (below_more (λ j. path_of bytes j ≡ path → ⊥) m none (differs m e))

  answers : (n m : ℕ) → m + n ≡ module_count bytes → NoneBelow bytes path m → Answers (find test (range_with_len m n))
  answers zero m h none = let e : m ≡ module_count bytes = omega arith in subst (NoneBelow bytes path) e none
  answers (suc n) m h none = here (test m) m (find test (range_with_len (m + 1) n)) refl (omega arith) none (λ more. answers n (m + 1) (omega arith) more)

pub lowest_answers : LowestAnswers
lowest_answers bytes path = answers bytes path (module_count bytes) 0 (omega arith) (λ j h. absurd (omega arith))
