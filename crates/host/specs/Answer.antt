-- The answers to the questions that name a module.
use Rattle.std.specs.Prelude.{◌≡◌, ℕ, ◌<◌, ◌≤◌, cond, ltb, List, Option, Result, Ok, Err, MatchResult}
use denote.Ref.{Bor}
use Rattle.host.specs.declared.refusal.HostFault.{HostFault}
use Rattle.host.specs.declared.refusal.HostFault.TheVariants.{Beyond}
use Rattle.host.specs.Meaning.{Meaning}

-- the block of a module; a module that is none is refused
abbrev pub IsBlockAnswer : Meaning → ℕ → Result (Bor (List ℕ)) HostFault → Type 0
IsBlockAnswer means m answer =
    MatchResult answer (λ block. (m < means.count) × (block.now ≡ means.block_of m)) (λ fault. (means.count ≤ m) × (fault ≡ Beyond m))

-- where a specifier of a module leads; a module that is none is refused
abbrev pub lookup_answer : Meaning → ℕ → List ℕ → Result (Option ℕ) HostFault
lookup_answer means m specifier = cond (ltb m means.count) (Ok (means.leads m specifier)) (Err (Beyond m))
