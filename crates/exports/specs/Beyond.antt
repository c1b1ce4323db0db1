-- What is exported where an item has a part that ECMA-262 does not have.
use Rattle.std.specs.Prelude.{◌≡◌, Bool, false, cond, List, [], ◌∷◌, Some, None, Option}
use Rattle.kinds.specs.Kinds.{default_spec, export_decl, export_default, export_named, ts_enum, ts_module, type_decl, using_decl}
use Rattle.kinds.specs.Shape.{among}
use Rattle.text.specs.Place.{textless}
use Rattle.text.specs.declared.place.Place.{Place}
use Rattle.cjs_rules.specs.Nodes.{Node, any_of_kind, child, is}
use Rattle.exports.specs.BoundNames.{of_declarators}
use Rattle.exports.specs.ExportedNames.{each, exported_names, identified, if_any, of_declaration, of_default, of_specifier}

-- a declaration outside the standard
abbrev pub is_beyond : Node → Bool
is_beyond d = among (using_decl ∷ ts_enum ∷ ts_module ∷ type_decl ∷ []) d.row.kind

-- `export using` exports its bound names, `export enum` and `export module` their identifiers, a module named by a
-- string nothing; a type declaration exports nothing
abbrev pub of_beyond : Node → List Place
of_beyond d =
    cond (is using_decl d) (of_declarators d.kids)
    (cond (among (ts_enum ∷ ts_module ∷ []) d.row.kind) (if_any identified (child 0 d.kids))
    [])

abbrev pub declaration_names : Node → List Place
declaration_names d = cond (is_beyond d) (of_beyond d) (of_declaration d)

-- `export v from "m"` exports `default`
abbrev pub specifier_names : Node → List Place
specifier_names s = cond (is default_spec s) (textless ∷ []) (of_specifier s)

abbrev pub is_type : Option Node → Bool
is_type None = false
is_type (Some d) = is type_decl d

-- `export default` of a type declaration exports nothing
abbrev pub default_names : Option Node → List Place
default_names d = cond (is_type d) [] of_default

-- an item, in the standard or not
abbrev pub item_names : Node → List Place
item_names n =
    cond (is export_decl n) (if_any declaration_names (child 0 n.kids))
    (cond (is export_named n) (each specifier_names n.kids)
    (cond (is export_default n) (default_names (child 0 n.kids))
    []))

abbrev pub declares_beyond : Option Node → Bool
declares_beyond None = false
declares_beyond (Some d) = is_beyond d

-- an item with a part outside the standard: its declaration, a specifier, or a type that is its default
abbrev pub has_beyond : Node → Bool
has_beyond n =
    cond (is export_decl n) (declares_beyond (child 0 n.kids))
    (cond (is export_named n) (any_of_kind default_spec n.kids)
    (cond (is export_default n) (is_type (child 0 n.kids))
    false))

abbrev pub ItemsOfTheStandardExportTheirExportedNames : Type 0
ItemsOfTheStandardExportTheirExportedNames = (n : Node) → has_beyond n ≡ false → item_names n ≡ exported_names n
