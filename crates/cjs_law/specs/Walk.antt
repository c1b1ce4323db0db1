-- The walk: the rows that it comes to, in order, and the acts there.
use Rattle.std.specs.Prelude.{◌≡◌, ℕ, Bool, false, cond, ◌&&◌, ◌⊎◌, ◌↔◌, List, [], ◌∷◌, ◌++◌, length, Some, None, Option, ◌==◌}
use Rattle.std.specs.Str.{bytes_eq}
use Rattle.kinds.specs.Kinds.{assign}
use Rattle.text.specs.declared.place.Place.{Place}
use Rattle.tree.specs.declared.row.Row.{Row}
use Rattle.tree.specs.Forest.{Forest, nil, node, forest}
use Rattle.cjs_rules.specs.Nodes.{read}
use Rattle.cjs_law.specs.declared.event.Event.{Event}
use Rattle.cjs_law.specs.declared.event.Event.TheVariants.{Bind, Export, Reexport, Replace, Unsafe}
use Rattle.cjs_law.specs.Events.{events}
use Rattle.cjs_law.specs.Lists.{In}

-- an Assign of mark 1 is one by an operator other than `=`; nothing under it is walked
abbrev pub skips : Row → Bool
skips r = r.kind == assign && r.mark == 1

-- a row that the walk comes to
pub record Visit : Type 0 where
  pub number : ℕ
  pub row : Row
  pub kids : Forest

-- a row comes before those under it, and these before its later siblings
abbrev pub walked : Forest → List Visit
walked nil = []
walked (node j r ks rest) = record { number = j; row = r; kids = ks } ∷ (cond (skips r) [] (walked ks) ++ walked rest)

-- the walk over rows
abbrev pub walk : List Row → List Visit
walk rs = walked (forest rs 0 (length rs))

-- an event, and the row at which the walk acts
pub record Act : Type 0 where
  pub row : ℕ
  pub event : Event

abbrev pub acts_at : ℕ → List Event → List Act
acts_at j [] = []
acts_at j (e ∷ es) = record { row = j; event = e } ∷ acts_at j es

-- what stands after some acts, by what each of their events makes of what stood before it
abbrev pub after : {X : Type 0} → (Event → X → X) → X → List Act → X
after by was [] = was
after by was (a ∷ acts) = after by (by a.event was) acts

-- the specifier that a name is bound to after these acts: that of its last binding
abbrev pub rebound : List ℕ → List ℕ → Event → Option Place → Option Place
rebound T name (Bind k v) was = cond (bytes_eq (read T k) name) (Some v) was
rebound T name (Export p) was = was
rebound T name (Unsafe p) was = was
rebound T name (Reexport p) was = was
rebound T name (Replace p) was = was

abbrev pub bound_after : List ℕ → Option Place → List Act → List ℕ → Option Place
bound_after T was acts name = after (rebound T name) was acts

abbrev pub bound : List ℕ → List Act → List ℕ → Option Place
bound T acts name = bound_after T None acts name

-- the acts at these rows, each by the bindings that the acts before it made
abbrev pub acts_from : List ℕ → List Act → List Visit → List Act
acts_from T done [] = []
acts_from T done (v ∷ vs) =
    let here : List Act = acts_at v.number (events T (bound T done) v.row v.kids) in
    here ++ acts_from T (done ++ here) vs

-- the acts of the whole walk
abbrev pub acts_of : List ℕ → List Row → List Act
acts_of T rs = acts_from T [] (walk rs)

-- a row of the forest under no row that is skipped
abbrev pub Reached : Visit → Forest → Type 0
Reached v nil = ⊥
Reached v (node j r ks rest) = (v ≡ record { number = j; row = r; kids = ks }) ⊎ (((skips r ≡ false) × Reached v ks) ⊎ Reached v rest)

-- the walk comes to exactly these
abbrev pub WalkReachesWhatIsNotSkipped : Type 0
WalkReachesWhatIsNotSkipped = (f : Forest) (v : Visit) → In v (walked f) ↔ Reached v f
