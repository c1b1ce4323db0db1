-- The line that describes a fault, the line of what is found or of its fault, and the digit of a truth value in it.
use Rattle.std.specs.Prelude.{◌≡◌, ℕ, Bool, cond, List, ◌++◌, Option, Some, Result, Ok, Err, codes, decimal, refl}
use Rattle.fault.specs.declared.Fault.{Fault}
use Rattle.fault.specs.declared.Layer.{Layer}
use Rattle.fault.specs.declared.Layer.TheVariants.{Host, Tree, Findings, Survey}

-- the number of a layer
abbrev pub layer_number : Layer → ℕ
layer_number Host = 1
layer_number Tree = 2
layer_number Findings = 3
layer_number Survey = 4

abbrev pub fault_line : Fault → List ℕ
fault_line f =
    codes "fault " ++ (decimal f.number ++ (codes " layer " ++ (decimal (layer_number f.layer) ++ (codes " module " ++ (decimal f.«module» ++ (codes " place " ++ decimal f.place))))))

-- what is found by its text, or the fault by its line
abbrev pub found_or_fault : {T : Type 0} → (T → List ℕ) → Result T Fault → List ℕ
found_or_fault text (Ok x) = text x
found_or_fault text (Err f) = fault_line f

-- the same where the text may be unknown
abbrev pub line_text : {T : Type 0} → (T → Option (List ℕ)) → Result T Fault → Option (List ℕ)
line_text text (Ok x) = text x
line_text text (Err f) = Some (fault_line f)

-- it is the same wherever it is known
pub line_shown : {T : Type 0} (text : T → List ℕ) (r : Result T Fault) → line_text (λ x. Some (text x)) r ≡ Some (found_or_fault text r)
line_shown text (Ok x) = refl
line_shown text (Err f) = refl

-- 1 for yes, 0 for no
abbrev pub digit : Bool → List ℕ
digit answer = cond answer (codes "1") (codes "0")
