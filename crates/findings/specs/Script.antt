-- The script test: whether a program is treated as a script.
use Rattle.std.specs.Prelude.{◌≡◌, ℕ, ◌<◌, Bool, true, false, cond, not, ◌⊎◌, List, [], ◌∷◌, ◌==◌, Some, None, Option, codes}
use Rattle.findings.specs.declared.parsed_source.ProgramKind.{ProgramKind}
use Rattle.findings.specs.declared.parsed_source.ProgramKind.TheVariants.{Module, Script}
use Rattle.kinds.specs.Kinds.{«import», export_all, export_decl, export_default, export_named, ts_export_assignment, ts_import_equals}
use Rattle.kinds.specs.Shape.{among}
use Rattle.tree.specs.declared.row.Row.{Row}
use Rattle.tree.specs.Enclosure.{EnclosesDirectly}
use Rattle.tree.specs.Forest.{Forest, Nested, nil, node, children, row_at}

-- the word for what a program is
abbrev pub kind_word : ProgramKind → List ℕ
kind_word Module = codes "module"
kind_word Script = codes "script"

-- a child of these kinds shows a module
abbrev pub shows_module : ℕ → Bool
shows_module kind = among («import» ∷ export_all ∷ export_decl ∷ export_named ∷ export_default ∷ []) kind

-- a child of these kinds shows a script
abbrev pub shows_script : ℕ → Bool
shows_script kind = among (ts_import_equals ∷ ts_export_assignment ∷ []) kind

-- what a child of a kind shows, where it tells: that it is a script, or that it is none
abbrev pub shown : ℕ → Option Bool
shown kind = cond (shows_module kind) (Some false) (cond (shows_script kind) (Some true) None)

-- the first child that shows one of the two answers; where none does, it is no script
abbrev pub first_shows : Forest → Bool
first_shows nil = false
first_shows (node j r children siblings) = cond (shows_module r.kind) false (cond (shows_script r.kind) true (first_shows siblings))

-- what a program is, by the mark of its root
abbrev pub program_kind : List Row → ProgramKind
program_kind rs = cond ((row_at rs 0).mark == 1) Script Module

-- a script is one; a module is one where its children show it
abbrev pub is_script : List Row → Bool
is_script rs = cond ((row_at rs 0).mark == 1) true (first_shows (children rs 0))

abbrev kind_at : List Row → ℕ → ℕ
kind_at rs c = (row_at rs c).kind

-- a row of this number tells: its kind shows a module or a script
abbrev pub Tells : List Row → ℕ → Type 0
Tells rs c = (shows_module (kind_at rs c) ≡ true) ⊎ (shows_script (kind_at rs c) ≡ true)

-- in rows with lawful ends
pub record FirstTellingChildDecides : Type 0 where
  -- of a module, the first child of the program that tells decides: it is no script exactly where that child shows a module
  pub first :
      (rs : List Row) → Nested rs → ((row_at rs 0).mark == 1) ≡ false → (c : ℕ) → EnclosesDirectly rs 0 c → Tells rs c →
      ((i : ℕ) → EnclosesDirectly rs 0 i → i < c → Tells rs i → ⊥) → is_script rs ≡ not (shows_module (kind_at rs c))
  -- where no child tells, it is no script
  pub none : (rs : List Row) → Nested rs → ((row_at rs 0).mark == 1) ≡ false → ((i : ℕ) → EnclosesDirectly rs 0 i → Tells rs i → ⊥) → is_script rs ≡ false
  -- a script is one
  pub script : (rs : List Row) → ((row_at rs 0).mark == 1) ≡ true → is_script rs ≡ true
