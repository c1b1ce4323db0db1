-- What happens at a row that the walk comes to: events, by the rules of CommonJS exports. T is the text section.
use Rattle.std.specs.Prelude.{ℕ, Bool, true, false, cond, ◌&&◌, List, [], ◌∷◌, ◌++◌, Some, None, Option, ◌==◌, nat_eq}
use Rattle.kinds.specs.Kinds.{assign, call, computed, ident, member, object, spread, str, var_decl}
use Rattle.text.specs.declared.place.Place.{Place}
use Rattle.tree.specs.declared.row.Row.{Row}
use Rattle.tree.specs.Forest.{Forest, nil, node}
use Rattle.cjs_rules.specs.Chain.{◌>>=◌, ◌>>◌, ◌or_else◌}
use Rattle.cjs_rules.specs.Names.{Name, named, nameless, quoted}
use Rattle.cjs_rules.specs.Nodes.{Node, child, is, past, place, text_of}
use Rattle.cjs_law.specs.declared.event.Event.{Event}
use Rattle.cjs_law.specs.declared.event.Event.TheVariants.{Bind, Export, Reexport, Replace, Unsafe}
use Rattle.cjs_rules.specs.Rules.{get_export_require_arg, get_expr_require_value, get_member_prop_text, get_member_require_value, get_object_define_get_prop, get_prop_name, get_prop_return_expr, is_export_callee, is_module_exports_or_exports, is_object_define, is_supported_object_prop, is_valid_object_define_obj_lit}

abbrev pub once : Option Event → List Event
once None = []
once (Some e) = e ∷ []

-- what each of some rows asks for, in order
abbrev pub each : (Node → Option Event) → Forest → List Event
each one nil = []
each one (node j r ks rest) = once (one (record { row = r; kids = ks })) ++ each one rest

-- exported where a test holds, and unsafe otherwise
abbrev pub export_if : Bool → Place → Event
export_if true p = Export p
export_if false p = Unsafe p

-- what one Declarator binds: its name, where that is an Ident, to the specifier that its initializer requires

abbrev pub visit_declarator : List ℕ → Node → Option Event
visit_declarator T d = do
  x ← child 0 d.kids
  is ident x
  e ← child 1 d.kids
  v ← get_expr_require_value T e
  Some (Bind (place x) v)

abbrev pub visit_var_decl : List ℕ → Forest → List Event
visit_var_decl T ks = each (visit_declarator T) ks

-- a Call: of `Object.defineProperty` on the exports object, with its second and third argument, or of a helper that copies exports

abbrev pub visit_object_define : List ℕ → (List ℕ → Option Place) → Node → Node → Option Event
visit_object_define T bound b d =
    (is str b >> Some (export_if (is_valid_object_define_obj_lit T d) (place b))) or_else (do
      is ident b && is object d
      g ← get_object_define_get_prop T d.kids
      e ← get_prop_return_expr g
      v ← get_member_require_value T bound (text_of T b) e
      Some (Reexport v))

abbrev pub visit_export_call : List ℕ → (List ℕ → Option Place) → Forest → Option Event
visit_export_call T bound ks = do
  c ← child 0 ks
  is_export_callee T c
  v ← get_export_require_arg T bound (past ks)
  Some (Reexport v)

abbrev pub visit_call_expr : List ℕ → (List ℕ → Option Place) → Forest → Option Event
visit_call_expr T bound ks =
    cond (is_object_define T ks)
    (do
      b ← child 2 ks
      d ← child 3 ks
      visit_object_define T bound b d)
    (visit_export_call T bound ks)

-- the right side of an Assign to the exports object

abbrev pub place_of_name : Name → Option Place
place_of_name (named p t) = Some p
place_of_name (quoted p t) = Some p
place_of_name nameless = None

abbrev pub visit_prop : List ℕ → Node → Option Event
visit_prop T p = cond (is spread p)
    (do
      x ← child 0 p.kids
      v ← get_expr_require_value T x
      Some (Reexport v))
    (do
      n ← place_of_name (get_prop_name T p)
      Some (export_if (is_supported_object_prop p) n))

abbrev pub visit_exports_call : List ℕ → Node → Option Event
visit_exports_call T n = get_expr_require_value T n >>= (λ v. Some (Replace v))

abbrev pub visit_value : List ℕ → Node → List Event
visit_value T n = cond (is object n) (each (visit_prop T) n.kids) (once (visit_exports_call T n))

-- the right side of an Assign of mark 0
abbrev pub assign_right : Node → Option Node
assign_right n = nat_eq n.row.mark 0 >> child 1 n.kids

-- the right side of an assignment to the exports object; where it is itself an Assign by `=`, the right side of that
abbrev pub visit_exports_right_expr : List ℕ → Row → Forest → List Event
visit_exports_right_expr T r nil = visit_value T (record { row = r; kids = nil })
visit_exports_right_expr T r (node j x xs nil) = visit_value T (record { row = r; kids = node j x xs nil })
visit_exports_right_expr T r (node j x xs (node i y ys rest)) =
    cond (r.kind == assign)
    (cond (r.mark == 0) (visit_exports_right_expr T y ys) [])
    (visit_value T (record { row = r; kids = node j x xs (node i y ys rest) }))

-- `exports[k] = o[k]`
abbrev pub keyed_value : List ℕ → (List ℕ → Option Place) → Node → Node → Option Place
keyed_value T bound p right = do
  is computed p
  k ← child 0 p.kids
  is ident k
  get_member_require_value T bound (text_of T k) right

-- an Assign to a property of the exports object: `exports.p = right`, or `exports[k] = o[k]`
abbrev pub to_member : List ℕ → (List ℕ → Option Place) → Node → Node → Option Event
to_member T bound p right =
    (get_member_prop_text T p >>= (λ q. Some (Export q))) or_else (keyed_value T bound p right >>= (λ v. Some (Reexport v)))

abbrev pub visit_member_target : List ℕ → (List ℕ → Option Place) → Node → Node → Option Event
visit_member_target T bound target right = do
  is member target
  o ← child 0 target.kids
  is_module_exports_or_exports T o
  p ← child 1 target.kids
  to_member T bound p right

abbrev pub visit_assign_target : List ℕ → (List ℕ → Option Place) → Node → Node → List Event
visit_assign_target T bound target right =
    cond (is_module_exports_or_exports T target)
    (visit_exports_right_expr T right.row right.kids)
    (once (visit_member_target T bound target right))

abbrev pub visit_assign_expr : List ℕ → (List ℕ → Option Place) → Forest → List Event
visit_assign_expr T bound nil = []
visit_assign_expr T bound (node j x xs nil) = []
visit_assign_expr T bound (node j x xs (node i y ys rest)) =
    visit_assign_target T bound (record { row = x; kids = xs }) (record { row = y; kids = ys })

-- what happens at a row, where names are bound so
abbrev pub events : List ℕ → (List ℕ → Option Place) → Row → Forest → List Event
events T bound r ks =
    cond (r.kind == var_decl) (visit_var_decl T ks)
    (cond (r.kind == call) (once (visit_call_expr T bound ks))
    (cond (r.kind == assign && r.mark == 0) (visit_assign_expr T bound ks) []))
