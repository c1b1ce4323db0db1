use Rattle.std.proofs.Common.{◌≡◌, refl, ap, ◌∙◌, rules}
use Rattle.std.specs.Ordering.{nat_cmp}
use Rattle.std.proofs.lemmas.Iterator.Consumers.{YieldsList-from_first}
use Rattle.std.proofs.lemmas.Iterator.Search.{cmp_from_yields_List}
use Rattle.text.specs.Reading.{loose, order, to_come}
use Rattle.text.proofs.reading.compare_loose.Goals as goal

-- The last step is a search, so that any answer that says the same as this order is proved.
pub returns-clause-by_bytes : goal.returns-clause-by_bytes
returns-clause-by_bytes c =
    let by_bytes : c.cmp.result ≡ order (loose c.args.a.now) (loose c.args.b.now) =
    cmp_from_yields_List (λ x y. y ≡ x) _ nat_cmp _ c.cmp.ensures.ran
    (YieldsList-from_first (λ x. x) to_come _ c.new.ensures)
    (λ it h. YieldsList-from_first (λ x. x) to_come _ (ap to_come h ∙ c.new-2.ensures))
    (λ x y. refl) in
    search (rules, by_bytes)
