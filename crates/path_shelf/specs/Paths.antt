-- A path shelf: its count, the blocks of its modules and their paths, as read from its bytes.
use Rattle.std.specs.Prelude.{ℕ, ◌+◌, ◌*◌, List}
use Rattle.text.specs.Number.{le32}
use Rattle.text.specs.Place.{stretch}
use Rattle.text.specs.declared.place.Place.{Place}
use Rattle.shelf.specs.Pairs.{pair}

-- how many modules the shelf counts
abbrev pub module_count : List ℕ → ℕ
module_count bytes = le32 bytes 0

-- the place of a module's block
abbrev pub block_place : List ℕ → ℕ → Place
block_place bytes m = pair bytes 4 m

-- the bytes of a module's block
abbrev pub block_of : List ℕ → ℕ → List ℕ
block_of bytes m = stretch bytes (block_place bytes m).offset (block_place bytes m).length

-- where the pairs of the paths begin: after those of the blocks
abbrev pub paths_start : List ℕ → ℕ
paths_start bytes = 4 + 8 * module_count bytes

-- the place of a module's path
abbrev pub path_place : List ℕ → ℕ → Place
path_place bytes m = pair bytes (paths_start bytes) m

-- the path of a module
abbrev pub path_of : List ℕ → ℕ → List ℕ
path_of bytes m = stretch bytes (path_place bytes m).offset (path_place bytes m).length
