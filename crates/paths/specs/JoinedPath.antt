-- What a specifier comes to is a path.
use Rattle.std.specs.Prelude.{◌≡◌, ℕ, true, List, reverse, Some}
use Rattle.paths.specs.Join.{join}
use Rattle.paths.specs.Segments.{Segment, is_path, text_of}

-- joined to a path, a specifier comes to a path or to none
abbrev pub JoinedIsPath : Type 0
JoinedIsPath =
    (path specifier : List ℕ) (names : List Segment) → is_path path ≡ true → join path specifier ≡ Some names → is_path (text_of (reverse names)) ≡ true
