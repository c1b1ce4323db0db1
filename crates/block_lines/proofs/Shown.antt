-- The text of a part, by its lists or its fault, and of a line that is refused.
use Rattle.std.proofs.Common.{◌≡◌, ℕ, List, Some, Ok, Err, Result, ap}
use Rattle.std.specs.Result.{IsErrAnd}
use Rattle.fault.specs.Line.{fault_line, found_or_fault, line_shown, line_text}
use Rattle.fault.specs.declared.Fault.{Fault}
use Rattle.lines.specs.declared.places.Lists.{Lists}
use Rattle.block_lines.specs.Lines.{part_text, lists_of}

pub part_shown : (r : Result Lists Fault) → line_text (λ l. Some (lists_of l)) r ≡ Some (part_text r)
part_shown r = line_shown lists_of r

pub fault_shown : {T : Type 0} (text : T → List ℕ) (r : Result T Fault) (f : Fault) → IsErrAnd r (λ g. g ≡ f) → found_or_fault text r ≡ fault_line f
fault_shown text (Ok x) f e = absurd e
fault_shown text (Err g) f e = ap fault_line e
