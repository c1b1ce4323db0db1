use Rattle.std.proofs.Common.{refl}
use Rattle.cjs_rules.specs.Nodes.{here}
use Rattle.exports.specs.Beyond.{specifier_names}
use Rattle.exports.specs.ExportedNames.{each}
use Rattle.exports.proofs.Onward.{done, stop, turn}
use Rattle.exports.proofs.items.export_specifiers.Goals as goal

pub returns-in_err-append_if_any : goal.returns-in_err-append_if_any
returns-in_err-append_if_any c =
    stop (each specifier_names) _ (specifier_names (here c.in-Some.specifier)) _ _ _ _ _ _ c.in-Some.ensures.steps refl c.loop-specifier.invariant.2 _ _ (rw c.specifier_name.ensures at c.in_err-append_if_any.ensures) c.from_residual.ensures.0

pub loop-specifier-preserved : goal.loop-specifier-preserved
loop-specifier-preserved c =
    (tt, tt, turn (each specifier_names) _ (specifier_names (here c.in-Some.specifier)) _ _ _ _ _ _ c.in-Some.ensures.steps refl c.loop-specifier.invariant.2 (rw c.specifier_name.ensures at c.in_ok-append_if_any.ensures))

pub returns : goal.returns
returns c = done _ _ _ _ (rw c.in-None.ensures.steps.0 refl) c.loop-specifier.invariant.2
