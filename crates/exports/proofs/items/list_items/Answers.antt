-- `exports-in-Break-1-own` and `reexports-in-Break-1-own` are the tables that the two lists give back where an item is
-- refused.
use Rattle.std.proofs.Common.{◌≡◌, Err, true, false, is_ok, sym, ◌∙◌, rules, tests}
use Rattle.cjs_rules.specs.Nodes.{here}
use Rattle.findings.specs.declared.refusal.FindingsFault.TheVariants.{Full}
use Rattle.findings.specs.Program.{program_tree}
use Rattle.tree.specs.Children.{left}
use Rattle.tree.specs.Forest.{children}
use Rattle.tree.specs.Subject.{tree_module, tree_rows}
use Rattle.exports.proofs.Progress.{at_first, at_next, no_room}
use Rattle.exports.proofs.items.list_items.Goals as goal

pub loop-item-init : goal.loop-item-init
loop-item-init c =
    let started : left c.into_iter-item-iterator.result ≡ left c.children-item-items.result = search rules in
    (tt, tt, at_first _ _ _ _ (started ∙ c.children-item-items.ensures.left ∙ (λ i. children (tree_rows (c.root.ensures.tree i)) (c.root.ensures.row i))))

pub loop-item-preserved : goal.loop-item-preserved
loop-item-preserved c =
    let ok : is_ok c.list_item.result ≡ true = search rules in
    (tt, tt, at_next _ _ _ _ _ _ c.loop-item.invariant.2 _ (here c.in-Some.item) (left c.next.new.self) c.in-Some.ensures.steps.first _ _ _ c.list_item.ensures ok)

pub returns-in_err-map_err : goal.returns-in_err-map_err
returns-in_err-map_err c =
    let err : is_ok c.list_item.result ≡ false = search rules in
    let is : c.from_residual.result ≡ Err (Full c.module-module.result c.row-row.result) = search (rules, tests) in
    let from : c.module-module.result ≡ tree_module (program_tree c.args.program) = search rules in
    let p = c.loop-item.invariant.2 in
    let l = c.list_item.ensures in
    let names = c.in_err-map_err.exports-in-Break-1-own.given.1 (sym (l.same.0 ∙ p.exports.same)) in
    let stars = c.in_err-map_err.reexports-in-Break-1-own.given.1 (sym (l.same.1 ∙ p.reexports.same)) in
    let stopped = no_room _ _ _ _ _ _ p _ (here c.in-Some.item) (left c.next.new.self) c.in-Some.ensures.steps.first _ _ _ l err in
    rw (is, names, stars) (from, rw c.row-row.ensures stopped)
