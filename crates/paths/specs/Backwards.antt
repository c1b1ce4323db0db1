-- Segments and names with the last one first, as they are read without memory.
use Rattle.std.specs.Prelude.{ℕ, ◌+◌, ◌-◌, Bool, false, cond, eqb, leb, List, [], ◌∷◌, length, drop}
use Rattle.paths.specs.Behind.{behind}
use Rattle.paths.specs.Segments.{Segment, is_dot, is_dots, is_empty}
use Rattle.paths.specs.declared.segments.Segments.{Segments}
use Rattle.paths.specs.declared.names.Names.{Names}

-- the segments that are still to come
abbrev pub to_come : Segments → List Segment
to_come it = behind it.text

module _ (folder : List Segment) where
  -- of a specifier's segments, the last one first, and then the names of a folder, those that no later `..` takes off, where `up` names are still to be taken off
  abbrev pub lasting : ℕ → List Segment → List Segment
  lasting up [] = drop up folder
  lasting up (segment ∷ before) =
      cond (is_dot segment) (lasting up before)
      (cond (is_dots segment) (lasting (up + 1) before) (cond (eqb up 0) (segment ∷ lasting 0 before) (lasting (up - 1) before)))

  -- whether no segment is empty, and there is a name for each `..` to take off
  abbrev pub stays : ℕ → List Segment → Bool
  stays up [] = leb up (length folder)
  stays up (segment ∷ before) =
      cond (is_empty segment) false (cond (is_dot segment) (stays up before) (cond (is_dots segment) (stays (up + 1) before) (stays (up - 1) before)))

-- the names that are still to come
abbrev pub names_to_come : Names → List Segment
names_to_come it = lasting (to_come it.folder) 0 (to_come it.specifier)
