-- What a caller may rely on at any host.
use Rattle.std.specs.Prelude.{◌≡◌, ℕ, ◌<◌, ◌≤◌, List, Option, Some, None, Result, MatchResult}
use denote.Ref.{Bor}
use Rattle.host.specs.declared.refusal.HostFault.{HostFault}
use Rattle.host.specs.declared.refusal.HostFault.TheVariants.{Beyond}
use Rattle.host.specs.Meaning.{Meaning}

-- the module that a specifier leads to, or the module itself where it leads nowhere
abbrev pub or_stays : ℕ → Option ℕ → ℕ
or_stays m None = m
or_stays m (Some to) = to

-- the block of the module that a specifier leads to; only a module that is none is refused
abbrev pub IsNextBlock : Meaning → ℕ → List ℕ → Result (Bor (List ℕ)) HostFault → Type 0
IsNextBlock means m specifier answer =
    MatchResult answer (λ block. (m < means.count) × (block.now ≡ means.block_of (or_stays m (means.leads m specifier)))) (λ fault. (means.count ≤ m) × (fault ≡ Beyond m))
