-- Where a specifier leads, by the numbers of the links.
use Rattle.std.specs.Prelude.{◌≡◌, ℕ, ◌<◌, List, false, true, MatchOption}
use Rattle.link_shelf.specs.Links.{link, link_count}
use Rattle.link_shelf.specs.Means.{is_of, leads}

-- no link below this number is one of the module's specifier
abbrev pub NoneBelow : List ℕ → ℕ → List ℕ → ℕ → Type 0
NoneBelow bytes m specifier n = (j : ℕ) → j < n → is_of bytes m specifier (link bytes j) ≡ false

-- link i is the first one of the module's specifier
pub record IsFirstLink (bytes : List ℕ) (m : ℕ) (specifier : List ℕ) (i : ℕ) : Type 0 where
  pub inside : i < link_count bytes
  pub of_specifier : is_of bytes m specifier (link bytes i) ≡ true
  pub none_below : NoneBelow bytes m specifier i

-- a specifier leads where its first link says, and nowhere where it has no link
abbrev pub FirstLinkAnswers : Type 0
FirstLinkAnswers =
    (bytes : List ℕ) (m : ℕ) (specifier : List ℕ)
    → MatchOption (leads bytes m specifier) (NoneBelow bytes m specifier (link_count bytes)) (λ to. (i : ℕ) × IsFirstLink bytes m specifier i × ((link bytes i).target ≡ to))
