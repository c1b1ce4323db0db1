-- The first number of a range, or the first row of a slice, at which a test fails is the first that offends.
use Rattle.std.proofs.Common.{◌≡◌, ℕ, ◌<◌, ◌≤◌, List, [], length, Some, None, Option, subst, sym, arith}
use Rattle.std.specs.Prelude.{MatchOption}
use Rattle.std.specs.List.{AllWithin, HoldsAt}
use Rattle.tree.specs.declared.row.Row.{Row}
use Rattle.tree.specs.Block.{row_in, rows_from}
use Rattle.tree.specs.First.{First}
use Rattle.tree.specs.Forest.{row_at}
use Rattle.tree.proofs.Sections.{counted, row_from}

pub first_found : (Rule : ℕ → Type 0) (m n : ℕ) (o : Option ℕ) → m ≡ n → MatchOption o ((k : ℕ) → 0 ≤ k → k < m → Rule k) (λ i. (0 ≤ i) × (i < m) × (Rule i → ⊥) × ((k : ℕ) → 0 ≤ k → k < i → Rule k)) → First Rule n o
first_found Rule m n None e h = λ j l. h j (omega arith) (omega arith)
first_found Rule m n (Some i) e h = (omega (arith, h.1), h.2, λ j l. h.3 j (omega arith) l)

-- the same of the rows in their bytes
module _ (Rule : Row → Type 0) (rows : List (List ℕ)) where
  abbrev pub Obeys : List ℕ → Type 0
  Obeys bytes = Rule (row_in bytes 0)

  obeys : (n : ℕ) → n ≤ length rows → AllWithin Obeys rows 0 n → (j : ℕ) → j < n → Rule (row_at (rows_from rows) j)
  obeys n in_rows all j l = subst Rule (sym (row_from rows j [] (omega arith))) (all j [] (omega arith) l)

  pub first_row_found : (o : Option ℕ) → MatchOption o (AllWithin Obeys rows 0 (length rows)) (λ i. (i < length rows) × HoldsAt (λ bytes. Obeys bytes → ⊥) rows i × AllWithin Obeys rows 0 i) → First (λ j. Rule (row_at (rows_from rows) j)) (length (rows_from rows)) o
  first_row_found None h = λ j l. obeys (length rows) (omega arith) h j (omega (arith, counted rows))
  first_row_found (Some i) h = (omega (arith, h.0, counted rows), λ r. h.1 [] (subst Rule (row_from rows i [] h.0) r), obeys i (omega (arith, h.0)) h.2)
