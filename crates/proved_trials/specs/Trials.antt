-- What the analyses find in the trials' blocks, from their bytes on.
use Rattle.std.specs.Prelude.{◌≡◌, ℕ, List, [], ◌∷◌, Ok, Result}
use Rattle.table.specs.declared.binding.Binding.{Binding}
use Rattle.text.specs.declared.place.Place.{Place}
use Rattle.tree.specs.Block.{rows, text}
use Rattle.findings.specs.Tables.{Found, Room}
use Rattle.cjs_parse.specs.Outcome.{cjs_outcome}
use Rattle.exports.specs.Listing.{es_outcome}
use Rattle.proved_trials.specs.Blocks.{assigned, assigned_then_unsafe, bound_later, defined, defined_by_another, not_replaced, pattern, replaced}

-- tables of four rows each
abbrev pub four : Room
four = record { bindings = 4; exports = 4; reexports = 4; unsafes = 4 }

abbrev pub place : ℕ → ℕ → Place
place offset count = record { offset = offset; length = count }

abbrev pub binding : Place → Place → Binding
binding name value = record { name = name; value = value }

abbrev pub found : List Binding → List Place → List Place → List Place → Result Found ℕ
found bindings exports reexports unsafes = Ok (record { bindings = bindings; exports = exports; reexports = reexports; unsafes = unsafes })

abbrev pub cjs : List ℕ → Result Found ℕ
cjs block = cjs_outcome four (text block) (rows block)

abbrev pub es : List ℕ → Result Found ℕ
es block = es_outcome four (rows block)

pub record TrialsStand : Type 0 where
  -- a is exported; marked unsafe after it, it is not
  pub assigned : cjs assigned ≡ found [] (place 7 1 ∷ []) [] []
  pub assigned_then_unsafe : cjs assigned_then_unsafe ≡ found [] [] [] (place 7 1 ∷ [])
  -- a is exported; with `f` as the third argument it is unsafe
  pub defined : cjs defined ≡ found [] (place 27 1 ∷ []) [] []
  pub defined_by_another : cjs defined_by_another ≡ found [] [] [] (place 27 1 ∷ [])
  -- y is re-exported in place of x; without a require value, x stays
  pub replaced : cjs replaced ≡ found [] [] (place 29 1 ∷ []) []
  pub not_replaced : cjs not_replaced ≡ found [] [] (place 15 1 ∷ []) []
  -- a is bound before the call is come to
  pub bound_later : cjs bound_later ≡ found (binding (place 9 1) (place 17 1) ∷ []) [] (place 17 1 ∷ []) []
  -- a and c are exported, and the key b is not
  pub pattern_exported : es pattern ≡ found [] (place 0 1 ∷ place 2 1 ∷ []) [] []
