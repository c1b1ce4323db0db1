-- The refusals of hosts.
use Rattle.std.specs.Prelude.{List, ℕ, codes}
use Rattle.fault.specs.declared.Fault.{Fault}
use Rattle.fault.specs.declared.Layer.TheVariants.{Host as HostLayer}
use Rattle.host.specs.declared.refusal.HostFault.{HostFault}
use Rattle.host.specs.declared.refusal.HostFault.TheVariants.{Shelf, Beyond}

-- the number, the layer, the module and the place of a refusal
abbrev pub describe : HostFault → Fault
describe Shelf = record { number = 7; layer = HostLayer; «module» = 0; place = 0 }
describe (Beyond m) = record { number = 16; layer = HostLayer; «module» = m; place = 0 }

-- what a refusal says in words
abbrev pub reason_words : HostFault → List ℕ
reason_words Shelf = codes "the bytes are no lawful shelf"
reason_words (Beyond m) = codes "the host has no such module"
