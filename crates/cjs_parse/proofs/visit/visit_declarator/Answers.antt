use Rattle.std.proofs.Common.{◌≡◌, true, Some, None, eqb, ap, ◌∙◌, rules, tests}
use Rattle.tree.specs.Children.{row_of}
use Rattle.text.specs.declared.place.Place.{Place}
use Rattle.cjs_law.specs.declared.event.Event.TheVariants.{Bind}
use Rattle.cjs_parse.proofs.Firsts.{declared}
use Rattle.cjs_parse.proofs.visit.visit_declarator.Goals as goal

pub returns-in_err-value : goal.returns-in_err-value
returns-in_err-value c =
    let name : eqb (row_of c.in_ok-id.id).kind 2 ≡ true = search (rules, tests) in
    c.from_residual-in_err-value.ensures ∙ declared c.args.declarator c.in_ok-id.id c.in_ok-id.init c.in_ok-id.ensures name None c.in_err-value.ensures

pub returns : goal.returns
returns c =
    let name : eqb (row_of c.in_ok-id.id).kind 2 ≡ true = search (rules, tests) in
    ap (λ (p : Place). Some (Bind p c.in_ok-value.value)) c.place-name.ensures ∙ declared c.args.declarator c.in_ok-id.id c.in_ok-id.init c.in_ok-id.ensures name (Some c.in_ok-value.value) c.in_ok-value.ensures
