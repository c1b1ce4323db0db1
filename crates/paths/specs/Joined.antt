-- A joined path, by its names.
use Rattle.std.specs.Prelude.{ℕ, List, reverse}
use Rattle.paths.specs.Backwards.{names_to_come}
use Rattle.paths.specs.Segments.{Segment, text_of}
use Rattle.paths.specs.declared.joined.Joined.{Joined}

-- the names, the last one first
abbrev pub joined_names : Joined → List Segment
joined_names joined = names_to_come joined.names

-- the names with `/` between them
abbrev pub joined_text : Joined → List ℕ
joined_text joined = text_of (reverse (joined_names joined))
