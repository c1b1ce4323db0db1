-- The children of a row in the rule's own words: the rows that it encloses directly, in order.
use Rattle.std.specs.Prelude.{◌≡◌, ℕ, ◌+◌, ◌≤◌, ◌⊎◌, List}
use Rattle.tree.specs.declared.row.Row.{Row}
use Rattle.tree.specs.Forest.{Encloses, Forest, Nested, children, nil, node, row_at}

-- row j encloses row c, and no row that row j encloses does
abbrev pub EnclosesDirectly : List Row → ℕ → ℕ → Type 0
EnclosesDirectly rs j c = Encloses rs j c × ((i : ℕ) → Encloses rs j i → Encloses rs i c → ⊥)

-- row c is one of those at the top of a tree
abbrev pub Stands : ℕ → Forest → Type 0
Stands c nil = ⊥
Stands c (node j r children siblings) = (c ≡ j) ⊎ Stands c siblings

-- the rows at the top of a tree have rising numbers, from this one on
abbrev pub Rises : ℕ → Forest → Type 0
Rises from nil = Unit {0}
Rises from (node j r children siblings) = (from ≤ j) × Rises (j + 1) siblings

-- each row at the top of a tree is the one of its number, with its own children
abbrev pub Carries : List Row → Forest → Type 0
Carries rs nil = Unit {0}
Carries rs (node j r kids siblings) = (r ≡ row_at rs j) × (kids ≡ children rs j) × Carries rs siblings

-- in rows with lawful ends
abbrev pub ChildrenAreEnclosedDirectly : Type 0
ChildrenAreEnclosedDirectly =
    (rs : List Row) → Nested rs → (j c : ℕ) → (Stands c (children rs j) → EnclosesDirectly rs j c) × (EnclosesDirectly rs j c → Stands c (children rs j))

abbrev pub ChildrenStandInOrder : Type 0
ChildrenStandInOrder = (rs : List Row) → Nested rs → (j : ℕ) → Rises (j + 1) (children rs j)

abbrev pub ChildrenCarryTheirRows : Type 0
ChildrenCarryTheirRows = (rs : List Row) → Nested rs → (j : ℕ) → Carries rs (children rs j)
