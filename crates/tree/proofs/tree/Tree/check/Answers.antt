use Rattle.std.proofs.Common.{◌∙◌, Some, None, sym, rules}
use Rattle.tree.specs.Block.{SectionsOf}
use Rattle.tree.specs.Verdict.{Lawful, bad_depth, bad_shape, bad_text, accepted}
use Rattle.tree.proofs.Passes.{depths, ends_of, nested_are, nested_own, no_sections, sections_are, shapes, some_rows, texts, unlawful_end}
use Rattle.tree.proofs.tree.Tree.check.Goals as goal
use Rattle.tree.proofs.tree.Tree.check.Goals.{In_ok-sections, In_ok-rows, In_default-first_unlawful_text}

read : (c : In_ok-sections) → SectionsOf c.args.block.now c.in_ok-sections.sections
read c = sections_are c.args.block.now _ _ _ c.sections_of.ensures c.ok_or.ensures.ok_part c.in_ok-sections.was

own : (c : In_ok-rows) → SectionsOf c.args.block.now c.in_ok-sections.sections → SectionsOf c.args.block.now (record { rows = c.in_ok-rows.rows.rows; text = c.in_ok-sections.sections.text })
own c s = nested_own _ _ c.in_ok-rows.rows s (nested_are _ _ _ _ _ c.nested.ensures c.map_err.ensures.cases c.in_ok-rows.was)

lawful : (c : In_default-first_unlawful_text) → SectionsOf c.args.block.now (record { rows = c.in_ok-rows.rows.rows; text = c.in_ok-sections.sections.text }) → Lawful c.args.block.now
lawful c s =
    record {
      layout = s.layout;
      ends = ends_of _ _ c.in_ok-rows.rows s;
      depths = depths _ _ s None c.in_default.ensures;
      shapes = shapes _ _ s None c.in_default-first_unshaped.ensures;
      texts = texts _ _ s None c.in_default-first_unlawful_text.ensures;
    }

pub returns-in_err-sections-clause-verdict : goal.returns-in_err-sections-clause-verdict
returns-in_err-sections-clause-verdict c =
    let v = no_sections c.args.module c.args.block.now _ _ c.sections_of.ensures (sym c.ok_or.ensures.value ∙ c.in_err-sections.was) in
    search (rules, v)

pub returns-in_err-rows-clause-verdict : goal.returns-in_err-rows-clause-verdict
returns-in_err-rows-clause-verdict c =
    let s = read (goal.at.returns-in_err-rows-clause-verdict c).In_ok-sections in
    let v = unlawful_end c.args.module _ _ _ _ _ _ s c.nested.ensures c.map_err.ensures.cases (λ k g h. search (rules, h)) c.in_err-rows.was in
    search (rules, v)

pub returns-in-Some-clause-verdict : goal.returns-in-Some-clause-verdict
returns-in-Some-clause-verdict c =
    let at = goal.at.returns-in-Some-clause-verdict c in
    let s = own at.In_ok-rows (read at.In_ok-sections) in
    bad_depth _ s.layout (ends_of _ _ c.in_ok-rows.rows s) (depths _ _ s (Some _) c.in-Some.ensures)

pub returns-in-Some-first_unshaped-clause-verdict : goal.returns-in-Some-first_unshaped-clause-verdict
returns-in-Some-first_unshaped-clause-verdict c =
    let at = goal.at.returns-in-Some-first_unshaped-clause-verdict c in
    let s = own at.In_ok-rows (read at.In_ok-sections) in
    bad_shape _ s.layout (ends_of _ _ c.in_ok-rows.rows s) (depths _ _ s None c.in_default.ensures) (shapes _ _ s (Some _) c.in-Some-first_unshaped.ensures)

pub returns-in-Some-first_unlawful_text-clause-verdict : goal.returns-in-Some-first_unlawful_text-clause-verdict
returns-in-Some-first_unlawful_text-clause-verdict c =
    let at = goal.at.returns-in-Some-first_unlawful_text-clause-verdict c in
    let s = own at.In_ok-rows (read at.In_ok-sections) in
    bad_text _ s.layout (ends_of _ _ c.in_ok-rows.rows s) (depths _ _ s None c.in_default.ensures) (shapes _ _ s None c.in_default-first_unshaped.ensures) (texts _ _ s (Some _) c.in-Some-first_unlawful_text.ensures)

pub invariant_of-result : goal.invariant_of-result
invariant_of-result c =
    let at = goal.at.invariant_of-result c in
    record {
      rooted = some_rows _ _ (own at.In_ok-rows (read at.In_ok-sections));
      shallow = c.in_default.ensures;
      shaped = c.in_default-first_unshaped.ensures;
      texts = λ j h. ∣ c.in_default-first_unlawful_text.ensures j h ∣₁;
    }

pub returns-clause-verdict : goal.returns-clause-verdict
returns-clause-verdict c =
    let at = goal.at.returns-clause-verdict c in
    accepted (lawful at.In_default-first_unlawful_text (own at.In_ok-rows (read at.In_ok-sections)))
