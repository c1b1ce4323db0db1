-- The text of a list: its rows' texts with a comma between each two, and a dash where there is no row.
use Rattle.std.specs.Prelude.{ℕ, List, [], ◌∷◌, ◌++◌, codes}

-- the texts of rows, with a comma before each
abbrev pub after_commas : {R : Type 0} → (R → List ℕ) → List R → List ℕ
after_commas text [] = []
after_commas text (row ∷ rows) = codes "," ++ (text row ++ after_commas text rows)

abbrev pub listed : {R : Type 0} → (R → List ℕ) → List R → List ℕ
listed text [] = codes "-"
listed text (row ∷ rows) = text row ++ after_commas text rows
