-- A search over the links comes to the first one that passes.
use Rattle.std.proofs.Common.{◌≡◌, ℕ, zero, suc, ◌+◌, ◌<◌, Bool, true, false, cond, List, map, Option, Some, MatchOption, refl, subst, below_more, arith}
use Rattle.std.specs.List.{find, range_with_len}
use Rattle.std.specs.Option.{option_map}
use Rattle.link_shelf.specs.declared.link.Link.{Link}
use Rattle.link_shelf.specs.FirstLink.{FirstLinkAnswers, IsFirstLink, NoneBelow}
use Rattle.link_shelf.specs.Links.{link, link_count, links}
use Rattle.link_shelf.specs.Means.{is_of}

module _ (bytes : List ℕ) (m : ℕ) (specifier : List ℕ) where
  abbrev test : ℕ → Bool
  test i = is_of bytes m specifier (link bytes i)

  abbrev Answers : Option Link → Type 0
  Answers found =
      MatchOption (option_map (λ l. l.target) found) (NoneBelow bytes m specifier (link_count bytes)) (λ to. (i : ℕ) × IsFirstLink bytes m specifier i × ((link bytes i).target ≡ to))

  more : (i : ℕ) → NoneBelow bytes m specifier i → test i ≡ false → NoneBelow bytes m specifier (i + 1)
  more i none here = below_more (λ j. test j ≡ false) i none here

  here : (b : Bool) (i : ℕ) (later : Option Link) → test i ≡ b → i < link_count bytes → NoneBelow bytes m specifier i → (NoneBelow bytes m specifier (i + 1) → Answers later) → Answers (cond b (Some (link bytes i)) later)
  here true i later e h none rest = (i, record { inside = h; of_specifier = e; none_below = none }, refl)
  here false i later e h none rest = rest (more i none e)

  answers : (n i : ℕ) → i + n ≡ link_count bytes → NoneBelow bytes m specifier i → Answers (find (is_of bytes m specifier) (map (link bytes) (range_with_len i n)))
  answers zero i h none = let e : i ≡ link_count bytes = omega arith in subst (NoneBelow bytes m specifier) e none
  answers (suc n) i h none =
      here (test i) i (find (is_of bytes m specifier) (map (link bytes) (range_with_len (i + 1) n))) refl (omega arith) none (λ more. answers n (i + 1) (omega arith) more)

pub first_link_answers : FirstLinkAnswers
unfolding links
first_link_answers bytes m specifier = answers bytes m specifier (link_count bytes) 0 (omega arith) (λ j h. absurd (omega arith))
