-- Chains of answers that may be absent, as `?` writes them in the code.
use Rattle.std.specs.Prelude.{Bool, true, false, Some, None, Option}
use Rattle.std.specs.Option.{option_and_then, option_or}

infixl 10 ◌>>=◌
infixr 10 ◌>>◌
infixl 20 ◌or_else◌
-- what follows from an answer, if there is one
abbrev pub ◌>>=◌ : {A B : Type 0} → Option A → (A → Option B) → Option B
a >>= f = option_and_then f a

-- past a test that holds
abbrev pub ◌>>◌ : {B : Type 0} → Bool → Option B → Option B
true >> b = b
false >> b = None

-- the first answer, or else the second
abbrev pub ◌or_else◌ : {A : Type 0} → Option A → Option A → Option A
a or_else b = option_or a b

-- a test that may have nothing to ask, which then fails
abbrev pub so : Option Bool → Bool
so None = false
so (Some b) = b
