-- The segments of a text that may be left, the last one first.
use Rattle.std.specs.Prelude.{ℕ, List, [], reverse, Option, Some, None}
use denote.Ref.{Bor}
use Rattle.paths.specs.Segments.{Segment, segments}

abbrev pub behind : Option (Bor (List ℕ)) → List Segment
behind None = []
behind (Some text) = reverse (segments text.now)
