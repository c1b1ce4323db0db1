-- A checked path shelf, by its bytes.
use Rattle.std.specs.Prelude.{◌≡◌, ℕ, ◌<◌, ◌≤◌, List, Result, MatchResult}
use Rattle.text.specs.declared.place.Place.{Place}
use Rattle.host.specs.declared.refusal.HostFault.{HostFault}
use Rattle.host.specs.declared.refusal.HostFault.TheVariants.{Shelf, Beyond}
use Rattle.path_shelf.specs.declared.checked.PathShelf.{PathShelf}
use Rattle.path_shelf.specs.Lawful.{Lawful}
use Rattle.path_shelf.specs.Paths.{block_place, module_count}

-- the bytes that were checked
abbrev pub shelf_bytes : PathShelf → List ℕ
shelf_bytes shelf = shelf.bytes.now

-- the bytes are a shelf exactly when they are lawful; other bytes are refused
abbrev pub IsCheckOf : List ℕ → Result PathShelf HostFault → Type 0
IsCheckOf bytes answer = MatchResult answer (λ shelf. Lawful bytes × (shelf_bytes shelf ≡ bytes)) (λ fault. (Lawful bytes → ⊥) × (fault ≡ Shelf))

-- the place of a module's block; a module that is none is refused
abbrev pub IsPlaceAnswer : List ℕ → ℕ → Result Place HostFault → Type 0
IsPlaceAnswer bytes m answer =
    MatchResult answer (λ place. (m < module_count bytes) × (place ≡ block_place bytes m)) (λ fault. (module_count bytes ≤ m) × (fault ≡ Beyond m))
