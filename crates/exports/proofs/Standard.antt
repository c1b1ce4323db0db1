-- An item with no part outside the standard exports its ExportedNames.
use Rattle.std.proofs.Common.{◌≡◌, Bool, true, false, cond, eqb, List, [], ◌++◌, Some, None, Option, refl}
use Rattle.kinds.specs.Kinds.{default_spec, export_decl, export_default, export_named}
use Rattle.std.proofs.lemmas.Bool.{cond-false, or_parts}
use Rattle.text.specs.declared.place.Place.{Place}
use Rattle.tree.specs.Forest.{Forest, nil, node}
use Rattle.cjs_rules.specs.Nodes.{Node, any_of_kind, child, is}
use Rattle.exports.specs.Beyond.{ItemsOfTheStandardExportTheirExportedNames, declaration_names, declares_beyond, is_type, specifier_names}
use Rattle.exports.specs.ExportedNames.{each, if_any, of_declaration, of_default, of_specifier}

same_declaration : (d : Option Node) → declares_beyond d ≡ false → if_any declaration_names d ≡ if_any of_declaration d
same_declaration None e = refl
same_declaration (Some d) e = cond-false _ _ _ e

same_specifiers : (f : Forest) → any_of_kind default_spec f ≡ false → each specifier_names f ≡ each of_specifier f
same_specifiers nil e = refl
same_specifiers (node j r f rest) e =
    let here : specifier_names (record { row = r; kids = f }) ≡ of_specifier (record { row = r; kids = f }) = cond-false _ _ _ (or_parts (eqb r.kind default_spec) (any_of_kind default_spec rest) e).0 in
    let later = same_specifiers rest (or_parts (eqb r.kind default_spec) (any_of_kind default_spec rest) e).1 in
    λ i. here i ++ later i

-- one of three lists, each the same unless a part is outside
same_by : (a b c p q r : Bool) (x x' y y' z z' : List Place) → (p ≡ false → x ≡ x') → (q ≡ false → y ≡ y') → (r ≡ false → z ≡ z') →
    cond a p (cond b q (cond c r false)) ≡ false → cond a x (cond b y (cond c z [])) ≡ cond a x' (cond b y' (cond c z' []))
same_by true b c p q r x x' y y' z z' f g h e = f e
same_by false true c p q r x x' y y' z z' f g h e = g e
same_by false false true p q r x x' y y' z z' f g h e = h e
same_by false false false p q r x x' y y' z z' f g h e = refl

pub items_of_the_standard : ItemsOfTheStandardExportTheirExportedNames
items_of_the_standard n e =
    same_by (is export_decl n) (is export_named n) (is export_default n) _ _ (is_type (child 0 n.kids)) _ _ _ _ _ of_default (same_declaration (child 0 n.kids)) (same_specifiers n.kids) (cond-false _ [] of_default) e
