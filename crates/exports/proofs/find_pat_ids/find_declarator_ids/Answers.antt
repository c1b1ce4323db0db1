use Rattle.std.proofs.Common.{◌≡◌, refl, rules}
use Rattle.cjs_rules.specs.Nodes.{here}
use Rattle.exports.specs.BoundNames.{bound_names, of_declarators, of_first}
use Rattle.exports.proofs.Onward.{done, stop, turn}
use Rattle.exports.proofs.find_pat_ids.find_declarator_ids.Goals as goal

pub loop-declarator-preserved-in-Continue-1 : goal.loop-declarator-preserved-in-Continue-1
loop-declarator-preserved-in-Continue-1 c =
    let names : bound_names (here c.in-Some-next.pattern) ≡ of_first (here c.in-Some.declarator).kids = search rules in
    (tt, tt, turn of_declarators _ (of_first (here c.in-Some.declarator).kids) _ _ _ _ _ _ c.in-Some.ensures.steps refl c.loop-declarator.invariant.2 (rw names at c.in_ok-find_pat_ids.ensures))

pub returns-in_err-find_pat_ids : goal.returns-in_err-find_pat_ids
returns-in_err-find_pat_ids c =
    let names : bound_names (here c.in-Some-next.pattern) ≡ of_first (here c.in-Some.declarator).kids = search rules in
    stop of_declarators _ (of_first (here c.in-Some.declarator).kids) _ _ _ _ _ _ c.in-Some.ensures.steps refl c.loop-declarator.invariant.2 _ _ (rw names at c.in_err-find_pat_ids.ensures) c.from_residual.ensures.0

pub returns : goal.returns
returns c = done _ _ _ _ (rw c.in-None.ensures.steps.0 refl) c.loop-declarator.invariant.2
