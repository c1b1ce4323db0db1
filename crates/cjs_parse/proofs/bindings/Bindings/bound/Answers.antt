use Rattle.std.proofs.Common.{Some, None, rules, ap, ◌∙◌}
use Rattle.std.proofs.lemmas.Fn.{always_returns_same}
use Rattle.table.specs.Kinds.{bindings}
use Rattle.text.specs.Reading.{order}
use Rattle.cjs_law.specs.Findings.{by_name}
use Rattle.cjs_parse.specs.State.{look}
use Rattle.cjs_parse.proofs.Look.{found_value}
use Rattle.cjs_parse.proofs.bindings.Bindings.bound.Goals as goal

pub returns-in_err-ok : goal.returns-in_err-ok
returns-in_err-ok c =
    let T = c.args.self.text.now in
    let key = c.text-sought.result.now in
    let at = c.search_by-found.ensures.position (λ b. order (by_name T b) key) (always_returns_same _ _ _ (λ a r q h. search rules)) in
    c.from_residual.ensures
    ∙ found_value T key c.args.self.rows.now bindings.zero c.search_by-found.result c.args.self.ordered c.search_by-found.ensures.bound at None c.in_err-ok.ensures.value
    ∙ ap (look T c.args.self.rows.now) c.text-sought.ensures

pub returns : goal.returns
returns c =
    let T = c.args.self.text.now in
    let key = c.text-sought.result.now in
    let at = c.search_by-found.ensures.position (λ b. order (by_name T b) key) (always_returns_same _ _ _ (λ a r q h. search rules)) in
    found_value T key c.args.self.rows.now bindings.zero c.search_by-found.result c.args.self.ordered c.search_by-found.ensures.bound at (Some c.in_ok-ok.field-0) c.in_ok-ok.ensures.value
    ∙ ap (look T c.args.self.rows.now) c.text-sought.ensures
