-- Acts with one more at the end.
use Rattle.std.proofs.Common.{◌≡◌, List, [], ◌∷◌, ◌++◌, refl, ap, ◌∙◌}
use Rattle.cjs_law.specs.declared.event.Event.{Event}
use Rattle.cjs_law.specs.Findings.{gathered}
use Rattle.cjs_law.specs.Walk.{Act, after}

-- what they gather, where an event puts something in front, whatever stands behind
pub gathered_last : {X : Type 0} (by : Event → List X → List X) → ((e : Event) (xs ys : List X) → by e (xs ++ ys) ≡ by e xs ++ ys) → (ds : List Act) (d : Act) → gathered by (ds ++ d ∷ []) ≡ gathered by ds ++ by d.event []
gathered_last by front [] d = refl
gathered_last by front (x ∷ ds) d = ap (by x.event) (gathered_last by front ds d) ∙ front x.event (gathered by ds) (by d.event [])

-- what stands after them
pub after_last : {X : Type 0} (by : Event → X → X) (was : X) (ds : List Act) (d : Act) → after by was (ds ++ d ∷ []) ≡ by d.event (after by was ds)
after_last by was [] d = refl
after_last by was (x ∷ ds) d = after_last by (by x.event was) ds d
