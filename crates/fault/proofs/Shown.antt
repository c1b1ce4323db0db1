-- The text that the printing of a truth value as a number meets.
use Rattle.std.proofs.Common.{◌≡◌, ℕ, Bool, true, false, ap, ◌∙◌, arith}
use Rattle.std.specs.Fmt.{decimal}
use Rattle.std.proofs.lemmas.Fmt.{decimal_digit}
use Rattle.std.specs.Int.{from_bool}
use Rattle.fault.specs.Line.{digit}

pub digit_shown : (b : Bool) (n : ℕ) → n ≡ from_bool b → decimal n ≡ digit b
digit_shown true n e = ap decimal e ∙ decimal_digit 1 (omega arith)
digit_shown false n e = ap decimal e ∙ decimal_digit 0 (omega arith)
