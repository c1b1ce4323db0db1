-- What the passes of a check say of a block: they ran over its own rows and text.
use Rattle.std.proofs.Common.{◌≡◌, ℕ, ◌/◌, ◌<◌, List, length, Some, None, Option, Ok, Err, Result, ap, ◌∙◌, subst, sym, arith}
use Rattle.std.specs.Prelude.{MatchOption, MatchResult, IsErrAnd}
use Rattle.std.specs.Option.{ok_or}
use Rattle.std.specs.Result.{result_ok}
use denote.Ref.{Bor}
use Rattle.tree.specs.declared.row.Row.{Row}
use Rattle.tree.specs.declared.layout.Sections.{Sections}
use Rattle.tree.specs.declared.nested.NestedRows.{NestedRows}
use Rattle.tree.specs.declared.row.Rows.{Rows}
use Rattle.tree.specs.declared.refusal.TreeFault.{TreeFault}
use Rattle.tree.specs.declared.refusal.TreeFault.TheVariants.{Layout, End}
use Rattle.tree.specs.Block.{LawfulLayout, SectionsOf, rows, rows_length, rows_of}
use Rattle.tree.specs.Depth.{Shallow}
use Rattle.tree.specs.First.{First}
use Rattle.tree.specs.Forest.{LawfulEnd, Nested, end_at, row_at}
use Rattle.tree.specs.Shaped.{LawfulShape}
use Rattle.tree.specs.Texts.{LawfulText}
use Rattle.tree.specs.Verdict.{Verdict, bad_layout, bad_end, described, FirstOf, Ends, Depths, Shapes, Texts}
use Rattle.tree.proofs.Sections.{length_rows}

-- an answer is the block's sections, or says that there are none
abbrev pub Found : List ℕ → Option Sections → Type 0
Found block o = MatchOption o (LawfulLayout block → ⊥) (SectionsOf block)

pub sections_are : (block : List ℕ) (o : Option Sections) (r : Result Sections TreeFault) (s : Sections) → Found block o → o ≡ result_ok r → r ≡ Ok s → SectionsOf block s
sections_are block o r s found e w = subst (Found block) (e ∙ ap result_ok w) found

pub no_sections : (m : ℕ) (block : List ℕ) (o : Option Sections) (f : TreeFault) → Found block o → ok_or o (Layout m) ≡ Err f → Verdict m block (described (Some f))
no_sections m block None f found e =
    let g : Layout m ≡ f = cc in
    subst (λ r. Verdict m block (described (Some r))) g (bad_layout found)
no_sections m block (Some s) f found e = absurd (cc)

module _ (block : List ℕ) (s : Sections) (own : SectionsOf block s) where
  pub some_rows : 0 < length (rows_of s.rows)
  some_rows =
      let n = ap length own.same_rows ∙ length_rows _ (rows_length block / 20) in
      omega (arith, own.layout.some_row, own.layout.whole_rows)

  module _ (o : Option ℕ) where
    pub ends : First (LawfulEnd (rows_of s.rows)) (length (rows_of s.rows)) o → FirstOf block (Ends block) o
    ends = subst (λ x. First (LawfulEnd x) (length x) o) own.same_rows

    pub depths : First (Shallow (rows_of s.rows)) (length (rows_of s.rows)) o → FirstOf block (Depths block) o
    depths = subst (λ x. First (Shallow x) (length x) o) own.same_rows

    pub shapes : First (LawfulShape (rows_of s.rows)) (length (rows_of s.rows)) o → FirstOf block (Shapes block) o
    shapes = subst (λ x. First (LawfulShape x) (length x) o) own.same_rows

    pub texts : First (λ j. LawfulText s.text.now (row_at (rows_of s.rows) j)) (length (rows_of s.rows)) o → FirstOf block (Texts block) o
    texts h =
        subst (λ t. First (λ j. LawfulText t (row_at (rows block) j)) (length (rows block)) o) own.same_text
        (subst (λ x. First (λ j. LawfulText s.text.now (row_at x j)) (length x) o) own.same_rows h)

-- rows that the first pass found nested are those that it was given; otherwise the block is refused for the end of one
abbrev pub Nests : Rows → Result NestedRows ℕ → Type 0
Nests rows o = MatchResult o (λ n. n.rows ≡ rows) (λ k. First (LawfulEnd (rows_of rows)) (length (rows_of rows)) (Some k))

abbrev pub Mapped : Result NestedRows ℕ → Result NestedRows TreeFault → (ℕ → TreeFault → Type 0) → Type 0
Mapped o p P = MatchResult o (λ n. p ≡ Ok n) (λ k. IsErrAnd p (P k))

pub nested_are : (rows : Rows) (o : Result NestedRows ℕ) (p : Result NestedRows TreeFault) (P : ℕ → TreeFault → Type 0) (n : NestedRows) → Nests rows o → Mapped o p P → p ≡ Ok n → n.rows ≡ rows
nested_are rows (Ok x) p P n f m e =
    let w : x ≡ n = cc in
    ap (λ y. y.rows) (sym w) ∙ f
nested_are rows (Err k) p P n f m e = absurd (subst (λ q. IsErrAnd q (P k)) e m)

pub unlawful_end : (m : ℕ) (block : List ℕ) (s : Sections) (o : Result NestedRows ℕ) (p : Result NestedRows TreeFault) (P : ℕ → TreeFault → Type 0) (f : TreeFault) → SectionsOf block s → Nests s.rows o → Mapped o p P → ((k : ℕ) (g : TreeFault) → P k g → g ≡ End m k) → p ≡ Err f → Verdict m block (described (Some f))
unlawful_end m block s (Ok x) p P f own first mapped is e = absurd (cc)
unlawful_end m block s (Err k) p P f own first mapped is e =
    let w = is k f (subst (λ q. IsErrAnd q (P k)) e mapped) in
    subst (λ g. Verdict m block (described (Some g))) (sym w) (bad_end k own.layout (ends block s own (Some k) first))

pub nested_own : (block : List ℕ) (s : Sections) (n : NestedRows) → SectionsOf block s → n.rows ≡ s.rows → SectionsOf block (record { rows = n.rows; text = s.text })
nested_own block s n own e = record { layout = own.layout; same_rows = ap rows_of e ∙ own.same_rows; same_text = own.same_text }

lawful_ends : (rs : List Row) → Nested rs → (j : ℕ) → j < length rs → LawfulEnd rs j
lawful_ends rs n j h = record { above = n.above j h; within = λ i e. n.within i j e.0 e.1; whole = λ z. ap (end_at rs) z ∙ n.whole }

pub ends_of : (block : List ℕ) (text : Bor (List ℕ)) (n : NestedRows) → SectionsOf block (record { rows = n.rows; text = text }) → FirstOf block (Ends block) None
ends_of block text n own = ends block _ own None (lawful_ends _ n.nested)
