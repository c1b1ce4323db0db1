-- Numbers in little-endian order. A byte past the end counts as 0.
use Rattle.std.specs.Prelude.{ℕ, ◌+◌, ◌*◌, List, slice_index}

-- the number of the four bytes from `at` on
abbrev pub le32 : List ℕ → ℕ → ℕ
le32 bs at = slice_index bs at + slice_index bs (at + 1) * 256 + slice_index bs (at + 2) * 65536 + slice_index bs (at + 3) * 16777216
