-- What the acts of a walk come to, in the subject's own words.
use Rattle.std.specs.Prelude.{◌≡◌, ℕ, ◌⊎◌, ◌↔◌, List, ◌∷◌, ◌++◌, Result, ◌≢◌}
use Rattle.table.specs.declared.binding.Binding.{Binding}
use Rattle.text.specs.declared.place.Place.{Place}
use Rattle.findings.specs.Tables.{Found, Room}
use Rattle.cjs_law.specs.declared.event.Event.{Event}
use Rattle.cjs_law.specs.declared.event.Event.TheVariants.{Bind, Export, Reexport, Replace, Unsafe}
use Rattle.cjs_law.specs.Findings.{Finds, Held, Outcome, by_name, held, loosely, outcome}
use Rattle.cjs_law.specs.Lists.{Has, In}
use Rattle.cjs_law.specs.Walk.{Act}

-- some act has an event of this sort, with a text of this reading
abbrev pub Says : (Place → Event) → List ℕ → List Act → List ℕ → Type 0
Says sort T acts reading = (a : Act) × (p : Place) × In a acts × (a.event ≡ sort p) × (loosely T p ≡ reading)

-- some act exports it, or marks it unsafe
abbrev pub Exports : List ℕ → List Act → List ℕ → Type 0
Exports = Says Export

abbrev pub MarksUnsafe : List ℕ → List Act → List ℕ → Type 0
MarksUnsafe = Says Unsafe

-- an act says it, and none before it says a text of the same reading
pub record SaysFirst (sort : Place → Event) (T : List ℕ) (acts : List Act) (p : Place) : Type 0 where
  pub before : List Act
  pub act : Act
  pub after : List Act
  pub split : acts ≡ before ++ act ∷ after
  pub says : act.event ≡ sort p
  pub first : Says sort T before (loosely T p) → ⊥

-- an act adds a place to the re-exports, and none after it clears them
pub record Adds (acts : List Act) (p : Place) : Type 0 where
  pub before : List Act
  pub act : Act
  pub after : List Act
  pub split : acts ≡ before ++ act ∷ after
  pub adds : (act.event ≡ Reexport p) ⊎ (act.event ≡ Replace p)
  pub last : (b : Act) (q : Place) → In b after → b.event ≢ Replace q

-- some act since the last clearing adds a text of this reading
abbrev pub Reexports : List ℕ → List Act → List ℕ → Type 0
Reexports T acts reading = (p : Place) × Adds acts p × (loosely T p ≡ reading)

-- an act adds it, and either clears or is the first since the last clearing to add a text of its reading
abbrev pub AddsFirst : List ℕ → List Act → Place → Type 0
AddsFirst T acts p = (a : Adds acts p) × (a.act.event ≡ Reexport p → Reexports T a.before (loosely T p) → ⊥)

-- some act makes this binding
abbrev pub Binds : List Act → Binding → Type 0
Binds acts b = (a : Act) × In a acts × (a.event ≡ Bind b.name b.value)

-- an act makes it, and none after it binds a name of the same bytes
pub record BindsLast (T : List ℕ) (acts : List Act) (b : Binding) : Type 0 where
  pub before : List Act
  pub act : Act
  pub after : List Act
  pub split : acts ≡ before ++ act ∷ after
  pub binds : act.event ≡ Bind b.name b.value
  pub last : (c : Binding) → Binds after c → by_name T c ≢ by_name T b

pub record ActsDecideTheLists : Type 0 where
  -- what is computed is the outcome in words, and there is no other
  pub outcome : (T : List ℕ) (room : Room) (acts : List Act) → Outcome T room acts (outcome T room acts)
  pub one : (T : List ℕ) (room : Room) (acts : List Act) (r s : Result Found ℕ) → Outcome T room acts r → Outcome T room acts s → r ≡ s
  -- while the walk goes on, the tables hold what is computed and nothing else
  pub held : (T : List ℕ) (acts : List Act) (f : Found) → Held T acts f ↔ (f ≡ held T acts)
  -- a text is listed exactly where some act adds it and none marks it unsafe
  pub exported :
      (T : List ℕ) (acts : List Act) (f : Found) → Finds T acts f → (reading : List ℕ) →
      Has (loosely T) reading f.exports ↔ (Exports T acts reading × (MarksUnsafe T acts reading → ⊥))
  pub reexported :
      (T : List ℕ) (acts : List Act) (f : Found) → Finds T acts f → (reading : List ℕ) →
      Has (loosely T) reading f.reexports ↔ (Reexports T acts reading × (MarksUnsafe T acts reading → ⊥))
  -- and it is an unsafe text exactly where some act marks it so
  pub unsafe :
      (T : List ℕ) (acts : List Act) (f : Found) → Finds T acts f → (reading : List ℕ) →
      Has (loosely T) reading f.unsafes ↔ MarksUnsafe T acts reading
  -- the place of a text is that of the first act that adds it, or marks it
  pub first_exported :
      (T : List ℕ) (acts : List Act) (f : Found) → Finds T acts f → (p : Place) →
      In p f.exports ↔ (SaysFirst Export T acts p × (MarksUnsafe T acts (loosely T p) → ⊥))
  pub first_reexported :
      (T : List ℕ) (acts : List Act) (f : Found) → Finds T acts f → (p : Place) →
      In p f.reexports ↔ (AddsFirst T acts p × (MarksUnsafe T acts (loosely T p) → ⊥))
  pub first_unsafe : (T : List ℕ) (acts : List Act) (f : Found) → Finds T acts f → (p : Place) → In p f.unsafes ↔ SaysFirst Unsafe T acts p
  -- a row of the bindings is the last binding of its name
  pub last_bound : (T : List ℕ) (acts : List Act) (f : Found) → Finds T acts f → (b : Binding) → In b f.bindings ↔ BindsLast T acts b
