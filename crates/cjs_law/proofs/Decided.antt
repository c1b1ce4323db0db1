-- The acts of a walk decide the lists.
use Rattle.std.proofs.Common.{◌≡◌, ℕ, ◌↔◌, List, [], sym, subst}
use Rattle.findings.specs.Tables.{Found}
use Rattle.cjs_law.specs.Findings.{Held, held}
use Rattle.cjs_law.specs.Laws.{ActsDecideTheLists}
use Rattle.cjs_law.specs.Walk.{Act}
use Rattle.cjs_law.proofs.Firsts.{first_exports, first_reexports, first_unsafes, last_bindings}
use Rattle.cjs_law.proofs.Said.{said_exports, said_reexports, said_unsafes}
use Rattle.cjs_law.proofs.Stands.{always_none, held_holds, listing_one, one_answer, outcome_from}

held_so : (T : List ℕ) (acts : List Act) (f : Found) → Held T acts f ↔ (f ≡ held T acts)
held_so T acts f = ((λ h. listing_one T acts [] f (held T acts) h (held_holds T acts)), (λ e. subst (Held T acts) (sym e) (held_holds T acts)))

pub acts_decide_the_lists : ActsDecideTheLists
acts_decide_the_lists =
    record {
      outcome = λ T room acts. outcome_from T room [] acts (always_none T room);
      one = one_answer;
      held = held_so;
      exported = λ T acts f h k. said_exports T acts k f h;
      reexported = λ T acts f h k. said_reexports T acts k f h;
      unsafe = λ T acts f h k. said_unsafes T acts k f h;
      first_exported = first_exports;
      first_reexported = first_reexports;
      first_unsafe = first_unsafes;
      last_bound = last_bindings;
    }
