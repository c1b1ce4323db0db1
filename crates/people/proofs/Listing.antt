-- The words of what an analysis leaves are those of what it comes to.
use Rattle.std.proofs.Common.{◌≡◌, ℕ, List, Ok, Err, Result, ap, ◌∙◌, subst}
use Rattle.table.proofs.Entered.{take_left}
use Rattle.findings.specs.Tables.{Found, Hold, answered, kept, room_of}
use Rattle.findings.specs.declared.refusal.FindingsFault.{FindingsFault}
use Rattle.findings.specs.declared.tables.FindingsTables.{FindingsTables}
use Rattle.block_lines.specs.declared.line.Names.{Names}
use Rattle.people.specs.Listed.{Lists, NamesListed, listed_text, names_words, outcome_words}
use Rattle.people.specs.declared.names.Rules.{Rules}

pub lists_outcome : (rules : Rules) (T : List ℕ) (a : Result (Unit {0}) FindingsFault) (t : FindingsTables) (r : Result Names FindingsFault) → NamesListed T a t r → Lists rules T a t (listed_text rules r)
lists_outcome rules T a t r h = λ m s o d. at m s o r d.tables.holds (subst (λ x. NamesListed T x t r) d.answer h)
  where
    at : (m : ℕ) (s : FindingsTables) (o : Result Found ℕ) (r : Result Names FindingsFault) → Hold (room_of s) (kept o) t → NamesListed T (answered m o) t r → listed_text rules r ≡ outcome_words rules m T o
    at m s (Ok f) (Ok n) h q = λ i. names_words rules (q.text i) ((q.exports ∙ take_left h.exports) i) ((q.reexports ∙ take_left h.reexports) i)
    at m s (Ok f) (Err e) h q = absurd q
    at m s (Err j) r h q = ap (listed_text rules) q
