-- How many rows tables have, by the sizes that were asked for and by the memory that they stand in.
use Rattle.std.specs.Prelude.{ℕ, length, min}
use Rattle.findings.specs.Tables.{Room}
use Rattle.answers.specs.declared.memory.Sizes.{Sizes}
use Rattle.answers.specs.declared.memory.TableMemory.{TableMemory}

abbrev pub size_room : Sizes → Room
size_room s = record { bindings = s.bindings; exports = s.exports; reexports = s.reexports; unsafes = s.unsafes }

-- so many rows, or as many as there are where that is less
abbrev pub at_most : ℕ → Room → Room
at_most n r = record { bindings = min r.bindings n; exports = min r.exports n; reexports = min r.reexports n; unsafes = min r.unsafes n }

abbrev pub memory_room : TableMemory → Room
memory_room m = record { bindings = length m.bindings.items; exports = length m.exports.items; reexports = length m.reexports.items; unsafes = length m.unsafes.items }
