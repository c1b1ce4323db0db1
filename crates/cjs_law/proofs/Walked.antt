-- The walk comes to the rows under no skipped row.
use Rattle.std.proofs.Common.{◌≡◌, Bool, true, false, cond, [], refl, inl, inr, ⊎_elim, true≢false}
use Rattle.tree.specs.Forest.{Forest, nil, node}
use Rattle.cjs_law.specs.Lists.{In}
use Rattle.cjs_law.specs.Walk.{Reached, Visit, WalkReachesWhatIsNotSkipped, skips, walked}
use Rattle.cjs_law.proofs.Members.{in_either, in_left, in_right}

under : (v : Visit) (ks : Forest) (t : Bool) → (In v (walked ks) → Reached v ks) → In v (cond t [] (walked ks)) → (t ≡ false) × Reached v ks
under v ks true f i = absurd i
under v ks false f i = (refl, f i)

over : (v : Visit) (ks : Forest) (t : Bool) → t ≡ false → In v (walked ks) → In v (cond t [] (walked ks))
over v ks true e i = absurd (true≢false e)
over v ks false e i = i

comes : (v : Visit) (f : Forest) → In v (walked f) → Reached v f
comes v nil i = absurd i
comes v (node j r ks rest) (inl e) = inl e
comes v (node j r ks rest) (inr i) = inr (⊎_elim (λ a. inl (under v ks (skips r) (comes v ks) a)) (λ b. inr (comes v rest b)) (in_either v (cond (skips r) [] (walked ks)) (walked rest) i))

come_to : (v : Visit) (f : Forest) → Reached v f → In v (walked f)
come_to v nil c = absurd c
come_to v (node j r ks rest) (inl e) = inl e
come_to v (node j r ks rest) (inr (inl c)) = inr (in_left v (cond (skips r) [] (walked ks)) (walked rest) (over v ks (skips r) c.0 (come_to v ks c.1)))
come_to v (node j r ks rest) (inr (inr c)) = inr (in_right v (cond (skips r) [] (walked ks)) (walked rest) (come_to v rest c))

pub walk_reaches_what_is_not_skipped : WalkReachesWhatIsNotSkipped
walk_reaches_what_is_not_skipped f v = (comes v f, come_to v f)
