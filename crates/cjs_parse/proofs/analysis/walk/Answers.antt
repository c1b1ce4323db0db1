-- `c.tables-1` and `c.in_err-map_err.tables-in-Break-1-own` are what is given back to `tables` where `walk` ends: the tables that `walk` still lends.
use Rattle.std.proofs.Common.{◌≡◌, Err, is_ok, sym, ap, ◌∙◌, subst, rules, tests}
use Rattle.tree.specs.Subject.{tree_module, tree_rows, tree_text}
use Rattle.cjs_parse.specs.State.{Ends, Finished, GaveUp}
use Rattle.findings.specs.declared.refusal.FindingsFault.TheVariants.{Full}
use Rattle.cjs_parse.proofs.Moving.{made_into, stopped, went_on}
use Rattle.cjs_parse.proofs.Walking.{gave_up_at, walked_all, walked_on}
use Rattle.cjs_parse.proofs.analysis.walk.Goals as goal

pub loop-node-preserved : goal.loop-node-preserved
loop-node-preserved c =
    let inv = c.loop-node.invariant in
    let steps = c.in-Some.ensures.steps in
    let m = went_on c.loop-node.walk c.visit.new.self _ c.visit.result (sym c.map_err.ensures.variant ∙ ap is_ok c.in_ok-map_err.was) c.visit.ensures in
    (tt, tt, steps.same ∙ inv.2, m.0 ∙ inv.3, m.1 ∙ inv.4, walked_on c.args.tree.now c.args.tables.now c.loop-node.walk c.visit.new.self c.loop-node.node-iterator c.next.new.self c.in-Some.node inv.2 inv.3 inv.5 steps m)

pub returns-in_err-map_err : goal.returns-in_err-map_err
returns-in_err-map_err c =
    let t = c.args.tree.now in
    let inv = c.loop-node.invariant in
    let m = stopped c.loop-node.walk c.visit.new.self _ c.visit.result (sym c.map_err.ensures.variant ∙ ap is_ok c.in_err-map_err.was) c.visit.ensures in
    let given = c.in_err-map_err.tables-in-Break-1-own.given.1 (sym (m.1 ∙ inv.4)) in
    let made : c.in_err-map_err.field-0.0 ≡ Full c.module-module.result c.row-row.result = made_into c.visit.result c.map_err.result _ _ _ c.map_err.ensures.cases (λ e k h. search (rules, h)) c.in_err-map_err.was in
    let is : c.from_residual.result ≡ Err (Full c.module-module.result c.row-row.result) = search (rules, tests) in
    subst (λ r. Ends (tree_module t) (tree_text t) (tree_rows t) c.args.tables.now r c.in_err-map_err.tables-in-Break-1-own.given.0) (sym is)
    (subst (GaveUp (tree_module t) (tree_text t) (tree_rows t) c.args.tables.now (Full c.module-module.result c.row-row.result)) (sym given) (gave_up_at t c.args.tables.now c.loop-node.walk c.visit.new.self c.loop-node.node-iterator c.next.new.self c.in-Some.node inv.2 inv.3 inv.5 c.in-Some.ensures.steps (tree_module t) (Full c.module-module.result c.row-row.result) (λ i. Full (c.module-module.ensures i) (c.row-row.ensures i)) m))

pub returns : goal.returns
returns c =
    let t = c.args.tree.now in
    let inv = c.loop-node.invariant in
    let given = c.tables-1.given.1 (sym inv.4) in
    subst (Finished (tree_text t) (tree_rows t) c.args.tables.now) (sym given) (walked_all t c.args.tables.now c.loop-node.walk.tables.now c.loop-node.node-iterator inv.2 inv.5 c.in-None.ensures.steps.past)
