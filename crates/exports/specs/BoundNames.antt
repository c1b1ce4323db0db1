-- BoundNames of ECMA-262 over the rows of a tree, clause by clause: the places of the names that a pattern binds, in
-- source order.
use Rattle.std.specs.Prelude.{ℕ, Bool, cond, List, [], ◌∷◌, ◌++◌, Some, None, Option}
use Rattle.kinds.specs.Kinds.{array_pat, assign_pat, assign_pat_prop, ident, key_value_pat, object_pat, rest_pat}
use Rattle.kinds.specs.Shape.{among}
use Rattle.text.specs.declared.place.Place.{Place}
use Rattle.tree.specs.Forest.{Forest, nil, node}
use Rattle.cjs_rules.specs.Nodes.{Node, is, place}

-- a rest element, and an element with a default, bind the names of what stands first in them
abbrev pub wraps_pattern : ℕ → Bool
wraps_pattern kind = among (rest_pat ∷ assign_pat ∷ []) kind

abbrev pub of_wrapper : Node → List Place → List Place
of_wrapper n first = cond (wraps_pattern n.row.kind) first []

-- a pattern, by what its children bind as elements, as properties, and the first of them alone:
-- an identifier binds its own name, an array pattern those of its elements, an object pattern those of its properties
abbrev pub of_pattern : Node → List Place → List Place → List Place → List Place
of_pattern n elements properties first =
    cond (is ident n) (place n ∷ [])
    (cond (is array_pat n) elements
    (cond (is object_pat n) properties
    (of_wrapper n first)))

-- `name`, with or without a default, binds that name; a rest property binds the names of what it holds
abbrev pub starts_with_pattern : ℕ → Bool
starts_with_pattern kind = among (assign_pat_prop ∷ rest_pat ∷ []) kind

-- a property of an object pattern, by what the first and the second of its children bind: `key: pattern` binds those
-- of its pattern
abbrev pub of_property : Node → List Place → List Place → List Place
of_property n first second = cond (is key_value_pat n) second (cond (starts_with_pattern n.row.kind) first [])

abbrev mutual
  -- rows as the elements of an array pattern
  pub of_elements : Forest → List Place
  of_elements nil = []
  of_elements (node j r f rest) = of_pattern (record { row = r; kids = f }) (of_elements f) (of_properties f) (of_first f) ++ of_elements rest

  -- rows as the properties of an object pattern
  pub of_properties : Forest → List Place
  of_properties nil = []
  of_properties (node j r f rest) = of_property (record { row = r; kids = f }) (of_first f) (of_second f) ++ of_properties rest

  -- the first row alone, as a pattern
  pub of_first : Forest → List Place
  of_first nil = []
  of_first (node j r f rest) = of_pattern (record { row = r; kids = f }) (of_elements f) (of_properties f) (of_first f)

  -- the second row alone, as a pattern
  pub of_second : Forest → List Place
  of_second nil = []
  of_second (node j r f rest) = of_first rest

-- the names that a row with its children binds
abbrev pub bound_names : Node → List Place
bound_names n = of_pattern n (of_elements n.kids) (of_properties n.kids) (of_first n.kids)

-- the same, of a row that may be absent
abbrev pub bound_in : Option Node → List Place
bound_in None = []
bound_in (Some n) = bound_names n

-- the names that a row binds as a property of an object pattern
abbrev pub property_names : Node → List Place
property_names n = of_property n (of_first n.kids) (of_second n.kids)

-- the names that the declarators of a declaration bind: of each, those of the pattern that stands first in it
abbrev pub of_declarators : Forest → List Place
of_declarators nil = []
of_declarators (node j r f rest) = of_first f ++ of_declarators rest
