-- What the walk comes to in emptied tables is what the analysis comes to in the tables as they were.
use Rattle.std.proofs.Common.{◌≡◌, ℕ, List, Result, sym, ap, ◌∙◌, subst}
use Rattle.findings.specs.Tables.{Analysed, Found, Hold, Leaves, answered, kept, nothing, room_of}
use Rattle.findings.specs.declared.refusal.FindingsFault.{FindingsFault}
use Rattle.findings.specs.declared.tables.FindingsTables.{FindingsTables}
use Rattle.findings.proofs.Leaving.{analysed_before, lenders_kept, room_emptied}
use Rattle.tree.specs.declared.row.Row.{Row}
use Rattle.cjs_parse.specs.Outcome.{cjs_outcome}
use Rattle.cjs_parse.specs.State.{Kept}

-- the tables v were emptied to u, walked to w, and settled to x
pub settled :
    (v u w x : FindingsTables) → Leaves v nothing u → Kept u w → (m : ℕ) (T : List ℕ) (rs : List Row) (o : Result Found ℕ) (r : Result (Unit {0}) FindingsFault) →
    cjs_outcome (room_of u) T rs ≡ o → r ≡ answered m o → Leaves w (kept o) x → Analysed m v (cjs_outcome (room_of v) T rs) r x
settled v u w x emptied walked m T rs o r comes answers leaves =
    let tables : Leaves u (kept o) x = record {
      holds = subst (λ room. Hold room (kept o) x) walked.room leaves.holds;
      lenders = lenders_kept u w x walked.lenders leaves.lenders;
    } in
    let outcome : o ≡ cjs_outcome (room_of v) T rs = sym comes ∙ ap (λ room. cjs_outcome room T rs) (room_emptied (room_of v) u emptied.holds) in
    subst (λ y. Analysed m v y r x) outcome (analysed_before v u x emptied m o r (record { answer = answers; tables = tables }))
