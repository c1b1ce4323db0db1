use Rattle.std.proofs.Common.{refl}
use Rattle.tree.specs.Block.{rows_in}
use Rattle.tree.specs.Forest.{forest, grown}
use Rattle.proved_trials.proofs.trials_stand.Goals as goal

pub returns : goal.returns
unfolding forest grown rows_in
returns c =
    record {
      assigned = refl;
      assigned_then_unsafe = refl;
      defined = refl;
      defined_by_another = refl;
      replaced = refl;
      not_replaced = refl;
      bound_later = refl;
      pattern_exported = refl;
    }
