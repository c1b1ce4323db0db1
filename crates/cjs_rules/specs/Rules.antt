-- The CommonJS rules, under the names of the ported source's helpers. docs/DECISIONS.md lists the helpers that have no rule here.
-- T is the text section.
use Rattle.std.specs.Prelude.{◌≡◌, ℕ, Bool, true, false, cond, not, ◌&&◌, ◌||◌, List, [], ◌∷◌, Some, None, codes, Option, ◌==◌}
use Rattle.std.specs.Str.{bytes_eq}
use Rattle.kinds.specs.Kinds.{arrow, block, call, computed, fn_expr, getter, ident, key_value, member, method, num, object, other_lit, paren, seq, setter, shorthand, spread, str, «return»}
use Rattle.kinds.specs.Shape.{among}
use Rattle.text.specs.declared.place.Place.{Place}
use Rattle.tree.specs.declared.row.Row.{Row}
use Rattle.tree.specs.Forest.{Forest, nil, node}
use Rattle.cjs_rules.specs.Chain.{◌>>=◌, ◌>>◌, ◌or_else◌, so}
use Rattle.cjs_rules.specs.Nodes.{Node, any_of_kind, child, final, has_count, is, past, place, read, text_of}
use Rattle.cjs_rules.specs.Names.{Name, named, nameless, quoted}
use Rattle.cjs_rules.specs.Words.{is_ident, is_plain_str}

-- the exports object

abbrev pub get_member_prop_text : List ℕ → Node → Option Place
get_member_prop_text T p = (is ident p >> Some (place p)) or_else (do
  is computed p
  x ← child 0 p.kids
  is_plain_str T x
  Some (place x))

abbrev pub is_module_exports_member : List ℕ → Node → Bool
is_module_exports_member T m = so (do
  o ← child 0 m.kids
  p ← child 1 m.kids
  q ← get_member_prop_text T p
  Some (is_ident T (codes "module") o && bytes_eq (read T q) (codes "exports")))

abbrev pub is_exports_expr : List ℕ → Node → Bool
is_exports_expr T n = is_ident T (codes "exports") n

abbrev pub is_module_exports_expr : List ℕ → Node → Bool
is_module_exports_expr T n = is member n && is_module_exports_member T n

abbrev pub is_module_exports_or_exports : List ℕ → Node → Bool
is_module_exports_or_exports T n = is_module_exports_expr T n || is_exports_expr T n

-- require values; a Spread is no Str and no Call, so none is read through it

-- of a call's children, the callee and the arguments
abbrev pub get_call_expr_require_value : List ℕ → Forest → Option Place
get_call_expr_require_value T nil = None
get_call_expr_require_value T (node j c ks nil) = None
get_call_expr_require_value T (node j c ks (node i a ls rest)) =
    let callee : Node = record { row = c; kids = ks } in
    let arg : Node = record { row = a; kids = ls } in
    let inner : Option Place = get_call_expr_require_value T ls in
    cond (is_ident T (codes "require") callee)
    (is_plain_str T arg >> Some (place arg))
    (is_ident T (codes "_interopRequireWildcard") callee >> is call arg >> inner)

abbrev pub get_expr_require_value : List ℕ → Node → Option Place
get_expr_require_value T n = is call n >> get_call_expr_require_value T n.kids

-- `o[key]` with o bound
abbrev pub get_member_require_value : List ℕ → (List ℕ → Option Place) → List ℕ → Node → Option Place
get_member_require_value T bound key m = do
  is member m
  o ← child 0 m.kids
  is ident o
  v ← bound (text_of T o)
  p ← child 1 m.kids
  is computed p
  x ← child 0 p.kids
  is_ident T key x
  Some v

-- calls

abbrev pub get_callee_member_expr : Node → Option Node
get_callee_member_expr c = (is member c >> Some c) or_else (do
  is paren c
  s ← child 0 c.kids
  is seq s && has_count 2 s.kids
  z ← child 0 s.kids
  is num z && z.row.mark == 1
  m ← child 1 s.kids
  is member m
  Some m)

abbrev pub is_object_define_callee : List ℕ → Node → Bool
is_object_define_callee T c = so (do
  m ← get_callee_member_expr c
  o ← child 0 m.kids
  p ← child 1 m.kids
  Some (is_ident T (codes "Object") o && is_ident T (codes "defineProperty") p))

-- of a call's children, the callee and the arguments
abbrev pub is_object_define : List ℕ → Forest → Bool
is_object_define T ks = so (do
  c ← child 0 ks
  a ← child 1 ks
  b ← child 2 ks
  d ← child 3 ks
  Some (is_object_define_callee T c && is_module_exports_or_exports T a && not (is spread b) && not (is spread d)))

abbrev pub is_star : List ℕ → Node → Bool
is_star T n = is_ident T (codes "__exportStar") n || is_ident T (codes "__export") n

abbrev pub is_export_member : List ℕ → Node → Bool
is_export_member T m = so (do
  o ← child 0 m.kids
  p ← child 1 m.kids
  Some (is ident o && is_star T p))

abbrev pub is_export_callee : List ℕ → Node → Bool
is_export_callee T c = elim (get_callee_member_expr c) [ Some m ↦ is_export_member T m | None ↦ is_star T c ]

-- no argument after the first, or `exports` alone
abbrev pub none_or_exports : List ℕ → Forest → Bool
none_or_exports T nil = true
none_or_exports T (node j r ks rest) = is_exports_expr T (record { row = r; kids = ks }) && has_count 0 rest

-- what an expression requires, or what it is bound to as a name
abbrev pub required_or_bound : List ℕ → (List ℕ → Option Place) → Node → Option Place
required_or_bound T bound a = get_expr_require_value T a or_else (is ident a >> bound (text_of T a))

abbrev pub get_export_require_arg : List ℕ → (List ℕ → Option Place) → Forest → Option Place
get_export_require_arg T bound args = do
  not (any_of_kind spread args)
  a ← child 0 args
  none_or_exports T (past args)
  required_or_bound T bound a

-- the same by the number of arguments, as the ported source has it: exactly one, or two of which the second is `exports`
abbrev pub get_export_require_arg_by_count : List ℕ → (List ℕ → Option Place) → Forest → Option Place
get_export_require_arg_by_count T bound args = do
  not (any_of_kind spread args)
  a ← child 0 args
  has_count 1 args || has_count 2 args && so (child 1 args >>= (λ b. Some (is_exports_expr T b)))
  get_expr_require_value T a or_else (is ident a >> bound (text_of T a))

abbrev pub RequiredArgumentIsTheOnlyOneOrBeforeExports : Type 0
RequiredArgumentIsTheOnlyOneOrBeforeExports =
    (T : List ℕ) (bound : List ℕ → Option Place) (args : Forest) → get_export_require_arg T bound args ≡ get_export_require_arg_by_count T bound args

-- properties

abbrev pub has_key : ℕ → Bool
has_key kind = among (key_value ∷ getter ∷ setter ∷ method ∷ []) kind

abbrev pub prop_name_from_key : List ℕ → Option Node → Name
prop_name_from_key T None = nameless
prop_name_from_key T (Some k) = cond (is ident k) (named (place k) (text_of T k)) (cond (is_plain_str T k) (quoted (place k) (text_of T k)) nameless)

abbrev pub get_prop_name : List ℕ → Node → Name
get_prop_name T p = cond (is shorthand p) (named (place p) (text_of T p)) (cond (has_key p.row.kind) (prop_name_from_key T (child 0 p.kids)) nameless)

abbrev pub is_get : Name → Bool
is_get (named p t) = bytes_eq t (codes "get")
is_get (quoted p t) = bytes_eq t (codes "get")
is_get nameless = false

-- the first property of an object whose name is `get`
abbrev pub get_object_define_get_prop : List ℕ → Forest → Option Node
get_object_define_get_prop T nil = None
get_object_define_get_prop T (node j r ks rest) =
    let p : Node = record { row = r; kids = ks } in
    (is_get (get_prop_name T p) >> Some p) or_else (get_object_define_get_prop T rest)

-- returned expressions

abbrev pub get_block_stmt_return_expr : Node → Option Node
get_block_stmt_return_expr b = do
  is block b && has_count 1 b.kids
  s ← child 0 b.kids
  is «return» s
  child 0 s.kids

abbrev pub get_function_return_expr : Node → Option Node
get_function_return_expr f = final f.kids >>= get_block_stmt_return_expr

abbrev pub get_arrow_return_expr : Node → Option Node
get_arrow_return_expr f = do
  b ← final f.kids
  cond (is block b) (get_block_stmt_return_expr b) (Some b)

abbrev pub get_value_return_expr : Node → Option Node
get_value_return_expr v = (is fn_expr v >> (final v.kids >>= get_function_return_expr)) or_else (is arrow v >> get_arrow_return_expr v)

abbrev pub get_prop_return_expr : Node → Option Node
get_prop_return_expr p = do
  v ← child 1 p.kids
  (is method p >> get_function_return_expr v) or_else (is key_value p >> get_value_return_expr v)

-- expressions without a side effect, the harmless ones

abbrev pub is_simple : Row → Bool
is_simple r = r.kind == ident || r.kind == str || r.kind == num || r.kind == other_lit || r.kind == object

-- of an expression and of the property of a member expression, by their children and rows
abbrev mutual
  pub harmless : Forest → Row → Bool
  harmless nil r = is_simple r
  harmless (node j o ks nil) r = is_simple r
  harmless (node j o ks (node i p ps rest)) r = cond (r.kind == member) (harmless ks o && harmless_prop ps p) (is_simple r)

  pub harmless_prop : Forest → Row → Bool
  harmless_prop nil p = not (p.kind == computed)
  harmless_prop (node j x ks rest) p = cond (p.kind == computed) (harmless ks x) true

abbrev pub is_non_side_effect_expr : Node → Bool
is_non_side_effect_expr n = harmless n.kids n.row

abbrev pub is_non_side_effect_member_prop : Node → Bool
is_non_side_effect_member_prop p = harmless_prop p.kids p.row

abbrev pub is_non_side_effect_block_stmt : Node → Bool
is_non_side_effect_block_stmt b = so (do
  e ← get_block_stmt_return_expr b
  Some (is_non_side_effect_expr e))

abbrev pub is_non_side_effect_block_stmt_or_expr : Node → Bool
is_non_side_effect_block_stmt_or_expr b = cond (is block b) (is_non_side_effect_block_stmt b) (is_non_side_effect_expr b)

abbrev pub is_non_side_effect_function : Node → Bool
is_non_side_effect_function f = so (do
  b ← final f.kids
  Some (is_non_side_effect_block_stmt b))

-- properties whose value is safe to read

-- a function or an arrow function that stands as a value
abbrev pub is_supported_get_value : Node → Bool
is_supported_get_value v = so (do
  f ← final v.kids
  Some (is fn_expr v && is_non_side_effect_function f || is arrow v && is_non_side_effect_block_stmt_or_expr f))

abbrev pub is_supported_get_prop : Node → Bool
is_supported_get_prop p = so (do
  v ← child 1 p.kids
  Some (is method p && is_non_side_effect_function v || is key_value p && is_supported_get_value v))

-- no property named `get`, or a supported one
abbrev pub has_supported_get_prop : List ℕ → Forest → Bool
has_supported_get_prop T ks = elim (get_object_define_get_prop T ks) [ Some p ↦ is_supported_get_prop p | None ↦ true ]

abbrev pub is_valid_object_define_obj_lit : List ℕ → Node → Bool
is_valid_object_define_obj_lit T n = is object n && has_supported_get_prop T n.kids

abbrev pub is_harmless_getter : Node → Bool
is_harmless_getter p = so (do
  b ← child 1 p.kids
  Some (is_non_side_effect_block_stmt b))

abbrev pub is_supported_object_prop : Node → Bool
is_supported_object_prop p =
    is method p || is key_value p || is shorthand p || is getter p && is_harmless_getter p
