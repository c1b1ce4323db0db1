-- A specifier joined to the path of the module that has it.
use Rattle.std.specs.Prelude.{ℕ, Bool, cond, ◌||◌, List, [], ◌∷◌, reverse, codes, eqb, Option, Some, None}
use Rattle.std.specs.List.{fold, starts_with}
use Rattle.paths.specs.Segments.{Segment, is_dot, is_dots, is_empty, segments}

-- the names held so far, the last one first; none once the specifier turned out to lead nowhere
abbrev pub Held : Type 0
Held = Option (List Segment)

-- `..` takes the last name off, and leads nowhere where there is none
abbrev pub without_last : List Segment → Held
without_last [] = None
without_last (last ∷ before) = Some before

-- one more segment of the specifier: an empty one leads nowhere, `.` changes nothing, a name is added
abbrev pub taken : List Segment → Segment → Held
taken names segment = cond (is_empty segment) None (cond (is_dot segment) (Some names) (cond (is_dots segment) (without_last names) (Some (segment ∷ names))))

abbrev pub take_in : Held → Segment → Held
take_in None segment = None
take_in (Some names) segment = taken names segment

-- all but the first
abbrev pub others : List Segment → List Segment
others [] = []
others (first ∷ later) = later

-- the names of a path but the last, the last one left first
abbrev pub folder : List ℕ → List Segment
folder path = others (reverse (segments path))

-- whether a specifier begins with `./` or `../`
abbrev pub is_relative : List ℕ → Bool
is_relative specifier = starts_with eqb specifier (codes "./") || starts_with eqb specifier (codes "../")

-- where no name is left, the specifier leads nowhere
abbrev pub some_names : Held → Held
some_names None = None
some_names (Some []) = None
some_names (Some (last ∷ before)) = Some (last ∷ before)

-- the names that a specifier comes to from a module's path, the last one first; none where it leads nowhere
abbrev pub join : List ℕ → List ℕ → Held
join path specifier = cond (is_relative specifier) (some_names (fold take_in (Some (folder path)) (segments specifier))) None
