-- ExportedNames of ECMA-262 over the rows of a tree, clause by clause. Beyond has the items outside the standard.
use Rattle.std.specs.Prelude.{cond, List, [], ◌∷◌, ◌++◌, Some, None, Option}
use Rattle.kinds.specs.Kinds.{class_decl, export_all, export_decl, export_default, export_named, fn_decl, ident, named_spec, namespace_spec, var_decl}
use Rattle.kinds.specs.Shape.{among}
use Rattle.text.specs.Place.{textless}
use Rattle.text.specs.declared.place.Place.{Place}
use Rattle.tree.specs.Forest.{Forest, nil, node}
use Rattle.cjs_rules.specs.Nodes.{Node, child, final, is, place}
use Rattle.exports.specs.BoundNames.{of_declarators}

-- the lists of rows that stand side by side, one after the other
abbrev pub each : (Node → List Place) → Forest → List Place
each list nil = []
each list (node j r f rest) = list (record { row = r; kids = f }) ++ each list rest

-- the list of a row that may be absent
abbrev pub if_any : (Node → List Place) → Option Node → List Place
if_any list None = []
if_any list (Some n) = list n

-- the text of a row as a name
abbrev pub named : Node → List Place
named n = place n ∷ []

-- the same, of an identifier alone
abbrev pub identified : Node → List Place
identified n = cond (is ident n) (place n ∷ []) []

-- `export` of a declaration: the bound names of a variable declaration; the identifier of a class or a function
abbrev pub of_declaration : Node → List Place
of_declaration d =
    cond (is var_decl d) (of_declarators d.kids)
    (cond (among (class_decl ∷ fn_decl ∷ []) d.row.kind) (if_any identified (child 0 d.kids))
    [])

-- a specifier of `export { .. }`: its last name, which is the one after `as` if there is one; of `* as name` that name
abbrev pub of_specifier : Node → List Place
of_specifier s =
    cond (is named_spec s) (if_any named (final s.kids))
    (cond (is namespace_spec s) (if_any named (child 0 s.kids))
    [])

-- `export default`
abbrev pub of_default : List Place
of_default = textless ∷ []

-- an item: `export * from "m"` exports no name, nor does an item that is no export
abbrev pub exported_names : Node → List Place
exported_names n =
    cond (is export_decl n) (if_any of_declaration (child 0 n.kids))
    (cond (is export_named n) (each of_specifier n.kids)
    (cond (is export_default n) of_default
    []))

-- the text by which `export * from "m"` names the module that it re-exports
abbrev pub star_of : Node → List Place
star_of n = cond (is export_all n) (if_any named (child 0 n.kids)) []
