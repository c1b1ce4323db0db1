use Rattle.std.proofs.Common.{◌≡◌, refl, ◌∙◌, rules}
use Rattle.cjs_rules.specs.Nodes.{here}
use Rattle.exports.specs.BoundNames.{bound_names, of_elements, of_properties, property_names}
use Rattle.exports.proofs.Appending.{none_listed}
use Rattle.exports.proofs.Onward.{done, stop, turn}
use Rattle.exports.proofs.find_pat_ids.+find_pat_ids.Goals as goal

pub loop-element-preserved : goal.loop-element-preserved
loop-element-preserved t c =
    let step = c.in-Some.ensures.steps in
    let kept = c.loop-element.invariant in
    (tt, tt, step.same ∙ kept.2, step.parent ∙ kept.3, turn of_elements _ (bound_names (here c.in-Some.element)) _ _ _ _ _ _ step refl kept.4 c.in_ok-find_pat_ids-in-ArrayPat.ensures)

pub returns-in_err-find_pat_ids-in-ArrayPat : goal.returns-in_err-find_pat_ids-in-ArrayPat
returns-in_err-find_pat_ids-in-ArrayPat t c =
    stop of_elements _ (bound_names (here c.in-Some.element)) _ _ _ _ _ _ c.in-Some.ensures.steps refl c.loop-element.invariant.4 _ _ c.in_err-find_pat_ids-in-ArrayPat.ensures c.from_residual.ensures.0

pub returns-in-None : goal.returns-in-None
returns-in-None t c = done _ _ _ _ (rw c.in-None.ensures.steps.0 refl) c.loop-element.invariant.4

pub loop-property-preserved-in-Continue-branch-2 : goal.loop-property-preserved-in-Continue-branch-2
loop-property-preserved-in-Continue-branch-2 t c =
    let step = c.in-Some-property.ensures.steps in
    let kept = c.loop-property.invariant in
    let names : bound_names (here c.in-Some-property_pattern.value) ≡ property_names (here c.in-Some-property.property) = search rules in
    (tt, tt, step.same ∙ kept.2, step.parent ∙ kept.3, turn of_properties _ (property_names (here c.in-Some-property.property)) _ _ _ _ _ _ step refl kept.4 (rw names at c.in_ok-find_pat_ids-in-ObjectPat.ensures))

pub returns-in_err-find_pat_ids-in-ObjectPat : goal.returns-in_err-find_pat_ids-in-ObjectPat
returns-in_err-find_pat_ids-in-ObjectPat t c =
    let names : bound_names (here c.in-Some-property_pattern.value) ≡ property_names (here c.in-Some-property.property) = search rules in
    stop of_properties _ (property_names (here c.in-Some-property.property)) _ _ _ _ _ _ c.in-Some-property.ensures.steps refl c.loop-property.invariant.4 _ _ (rw names at c.in_err-find_pat_ids-in-ObjectPat.ensures) c.from_residual-in_err-find_pat_ids-in-ObjectPat.ensures.0

pub returns-in-None-property : goal.returns-in-None-property
returns-in-None-property t c = done _ _ _ _ (rw c.in-None-property.ensures.steps.0 refl) c.loop-property.invariant.4

pub returns-in-None-next : goal.returns-in-None-next
returns-in-None-next t c = none_listed _ _ (search rules)

pub returns-in_default : goal.returns-in_default
returns-in_default t c = none_listed _ _ (search rules)
