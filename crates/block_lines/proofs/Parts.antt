-- The text of what an analysis leaves is that of what it comes to.
use Rattle.std.proofs.Common.{◌≡◌, ℕ, Bool, List, ◌++◌, Ok, Err, codes, Result, ap, ◌∙◌, subst}
use Rattle.std.specs.Result.{result_and}
use Rattle.table.proofs.Entered.{take_left}
use Rattle.fault.specs.Line.{digit, fault_line}
use Rattle.fault.specs.declared.Fault.{Fault}
use Rattle.findings.specs.Tables.{Analysed, Found, Hold, Room, answered, describe, kept, room_of}
use Rattle.findings.specs.declared.refusal.FindingsFault.{FindingsFault}
use Rattle.findings.specs.declared.refusal.FindingsFault.TheVariants.{Full}
use Rattle.findings.specs.declared.tables.FindingsTables.{FindingsTables}
use Rattle.lines.specs.Places.{lists_text}
use Rattle.lines.specs.declared.places.Lists.{Lists}
use Rattle.block_lines.specs.Lines.{ListsOf, NamesOf, PartOf, both_text, names_of, names_text, outcome_text, part_text}
use Rattle.block_lines.specs.declared.line.Names.{Names}

lists_text_of_held : (room : Room) (f : Found) (t : FindingsTables) (l : Lists) → Hold room f t → ListsOf t l → lists_text l.bindings.now l.exports.now l.reexports.now l.unsafes.now ≡ lists_text f.bindings f.exports f.reexports f.unsafes
lists_text_of_held room f t l h o =
    λ i. lists_text
    ((o.bindings ∙ take_left h.bindings) i)
    ((o.exports ∙ take_left h.exports) i)
    ((o.reexports ∙ take_left h.reexports) i)
    ((o.unsafes ∙ take_left h.unsafes) i)

pub part_text_is_outcome : (m : ℕ) (s : FindingsTables) (o : Result Found ℕ) (a : Result (Unit {0}) FindingsFault) (t : FindingsTables) (p : Result Lists Fault) → Analysed m s o a t → PartOf a t p → part_text p ≡ outcome_text m o
part_text_is_outcome m s o a t p d q = at o p d.tables.holds (subst (λ r. PartOf r t p) d.answer q)
  where
    at : (o : Result Found ℕ) (p : Result Lists Fault) → Hold (room_of s) (kept o) t → PartOf (answered m o) t p → part_text p ≡ outcome_text m o
    at (Ok f) (Ok l) h q = lists_text_of_held (room_of s) f t l h q
    at (Ok f) (Err g) h q = absurd q
    at (Err j) (Ok l) h q = absurd q
    at (Err j) (Err g) h q = ap fault_line q

names_text_of_held : (T : List ℕ) (room : Room) (f : Found) (t : FindingsTables) (n : Names) → Hold room f t → NamesOf T t n → names_of n ≡ names_text T f.exports f.reexports
names_text_of_held T room f t n h o = λ i. names_text (o.text i) ((o.exports ∙ take_left h.exports) i) ((o.reexports ∙ take_left h.reexports) i)

module _ (m : ℕ) (T : List ℕ) (script : Bool) where
  -- both analyses are accepted
  pub accepted_text : (k l : Room) (u v : FindingsTables) (o p : Result Found ℕ) (x y : Names) → Hold k (kept o) u → Hold l (kept p) v → Ok tt ≡ result_and (answered m o) (answered m p) → NamesOf T u x → NamesOf T v y → digit script ++ (codes " " ++ (names_of x ++ (codes " " ++ names_of y))) ≡ both_text m T script o p
  accepted_text k l u v (Ok f) (Ok g) x y c d e q r = λ i. digit script ++ (codes " " ++ (names_text_of_held T k f u x c q i ++ (codes " " ++ names_text_of_held T l g v y d r i)))
  accepted_text k l u v (Err j) p x y c d e q r = cc
  accepted_text k l u v (Ok f) (Err j) x y c d e q r = cc

  -- one of them is refused
  pub refused_text : (o p : Result Found ℕ) (f : FindingsFault) → Err f ≡ result_and (answered m o) (answered m p) → fault_line (describe f) ≡ both_text m T script o p
  refused_text (Err j) p f e = let q : f ≡ Full m j = cc in ap (λ x. fault_line (describe x)) q
  refused_text (Ok g) (Err j) f e = let q : f ≡ Full m j = cc in ap (λ x. fault_line (describe x)) q
  refused_text (Ok g) (Ok h) f e = cc
