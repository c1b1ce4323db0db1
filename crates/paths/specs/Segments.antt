-- Texts as segments with the byte `/` between them, and which of them are paths.
use Rattle.std.specs.Prelude.{ℕ, Bool, not, ◌&&◌, ◌==◌, List, [], codes}
use Rattle.std.specs.List.{join_with_byte, list_all, slice_split}
use Rattle.std.specs.Str.{bytes_eq}

-- a segment
abbrev pub Segment : Type 0
Segment = List ℕ

abbrev pub is_slash : ℕ → Bool
is_slash b = b == 47

-- the segments of a text, at least one
abbrev pub segments : List ℕ → List Segment
segments text = slice_split is_slash text

-- the text of segments
abbrev pub text_of : List Segment → List ℕ
text_of all = join_with_byte 47 all

-- the segments that are no names: the empty one, `.` and `..`
abbrev pub is_empty : Segment → Bool
is_empty segment = bytes_eq segment []

abbrev pub is_dot : Segment → Bool
is_dot segment = bytes_eq segment (codes ".")

abbrev pub is_dots : Segment → Bool
is_dots segment = bytes_eq segment (codes "..")

abbrev pub is_name : Segment → Bool
is_name segment = not (is_empty segment) && not (is_dot segment) && not (is_dots segment)

-- a path has names only
abbrev pub is_path : List ℕ → Bool
is_path text = list_all is_name (segments text)
