use Rattle.std.proofs.Common.{◌≡◌, length, inl, true, false, sym, ap, ◌∙◌, rules, arith}
use Rattle.std.proofs.lemmas.Iterator.{YieldsList, cases_from_all}
use Rattle.std.proofs.lemmas.Iterator.Consumers.{YieldsList-from_enumerate, count_from_yields_List}
use Rattle.kinds.specs.Number.{number}
use Rattle.tree.specs.Block.{rows_of}
use Rattle.tree.specs.ChildRows.{GivesRow, rest}
use Rattle.tree.specs.Forest.{children}
use Rattle.tree.specs.Shaped.{children_fit, kinds_of}
use Rattle.tree.proofs.Fits.{Passes, all_fit, kind_of, kinds_listed, named, named_is, none_fit, still_few}
use Rattle.tree.proofs.nested.NestedRows.children_fit.Goals as goal
use Rattle.tree.proofs.nested.NestedRows.children_fit.Goals.{After-count-count}

counted : (c : After-count-count) → c.count-count.result ≡ length (kinds_of (children (rows_of c.args.self.now.rows) c.args.j))
counted c =
    count_from_yields_List _ _ c.count-count.ensures.ran
    (kinds_listed (rows_of c.args.self.now.rows) _ _ (ap (λ x. rows_of x.rows) c.children.ensures.rows) (ap kinds_of c.children.ensures.rest))

pub count-count-requires-clause-fits : goal.count-count-requires-clause-fits
count-count-requires-clause-fits c = inl (omega (arith, still_few c.children.result))

pub all-requires-clause-can : goal.all-requires-clause-can
all-requires-clause-can c = let few = still_few c.enumerate.result.iter in (tt, tt, inl (omega (arith, c.enumerate.ensures.count)))

pub returns-then-may_have : goal.returns-then-may_have
returns-then-may_have c =
    let rs = rows_of c.args.self.now.rows in
    let ks = kinds_of (children rs c.args.j) in
    let n = c.count-count.result in
    let r = named (number c.args.kind) c.row-mark.result in
    let it = c.enumerate.result.iter in
    let listed : YieldsList GivesRow (kind_of rs) it ks =
    kinds_listed rs ks it (ap (λ x. rows_of x.rows.rows) c.enumerate.ensures.source ∙ ap (λ x. rows_of x.rows) c.children-then-may_have.ensures.rows)
    (ap (λ x. kinds_of (rest x)) c.enumerate.ensures.source ∙ ap kinds_of c.children-then-may_have.ensures.rest) in
    all_fit r n ks c.all.result (counted (goal.at.returns-then-may_have c).After-count-count) (sym c.if-may_have.ensures)
    (cases_from_all _ _ c.all.result (Passes r n true) (Passes r n false) c.all.ensures.ran (YieldsList-from_enumerate listed c.enumerate.ensures.count) (λ x q d. search (rules, d)) (λ x q d. search (rules, d)))
    ∙ ap (λ r. children_fit r ks) (named_is _ _ _ c.requires c.row-mark.ensures)

pub returns-else-may_have : goal.returns-else-may_have
returns-else-may_have c =
    let ks = kinds_of (children (rows_of c.args.self.now.rows) c.args.j) in
    c.if-may_have.false ∙ none_fit (named (number c.args.kind) c.row-mark.result) _ ks (counted (goal.at.returns-else-may_have c).After-count-count) (sym c.if-may_have.ensures)
    ∙ ap (λ r. children_fit r ks) (named_is _ _ _ c.requires c.row-mark.ensures)
