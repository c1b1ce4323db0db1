-- The table of kinds: the text, the marks and the children of each kind of row.
use Rattle.std.specs.Prelude.{ℕ, Bool, true, false, cond, not, ◌&&◌, ◌||◌, List, [], ◌∷◌, Some, None, Option, ◌==◌, nat_le}
use Rattle.kinds.specs.declared.shape.Group.{Group}
use Rattle.kinds.specs.declared.shape.Group.TheVariants.{Any, Block, Declaration, Declarator, Function, Ident, Key, MemberProperty, Name, NotBlock, NotModuleItem, PatternProperty, Property, Specifier, SpecifierOrStr, Str}
use Rattle.kinds.specs.declared.shape.Encoding.{Encoding}
use Rattle.kinds.specs.declared.shape.Encoding.TheVariants.{Utf8, Wtf8}
use Rattle.kinds.specs.Kinds.{other, ident, str, num, other_lit, call, spread, member, private_name, computed, paren, seq, assign, object, key_value, shorthand, getter, setter, method, function, fn_expr, arrow, block, «return», var_decl, using_decl, declarator, object_pat, key_value_pat, assign_pat_prop, rest_pat, assign_pat, «import», export_all, export_decl, export_named, namespace_spec, default_spec, named_spec, export_default, ts_namespace_export, class_decl, fn_decl, ts_enum, ts_module, type_decl, program}

-- the kind is one of these
abbrev pub among : List ℕ → ℕ → Bool
among [] kind = false
among (k ∷ []) kind = kind == k
among (k ∷ l ∷ ks) kind = kind == k || among (l ∷ ks) kind

-- the kind lies between these two, both included
abbrev pub from : ℕ → ℕ → ℕ → Bool
from low high kind = nat_le low kind && nat_le kind high

-- the kinds of each group
abbrev pub has : Group → ℕ → Bool
has Any kind = true
has Block kind = kind == block
has Declaration kind = kind == var_decl || kind == using_decl || from class_decl type_decl kind
has Declarator kind = kind == declarator
has Function kind = kind == function
has Ident kind = kind == ident
has Key kind = among (ident ∷ str ∷ num ∷ other_lit ∷ computed ∷ []) kind
has MemberProperty kind = among (ident ∷ private_name ∷ computed ∷ []) kind
has Name kind = among (ident ∷ str ∷ []) kind
has NotBlock kind = not (kind == block)
has NotModuleItem kind = not (from «import» ts_namespace_export kind)
has PatternProperty kind = from key_value_pat rest_pat kind
has Property kind = kind == other || kind == spread || from key_value method kind
has Specifier kind = from namespace_spec named_spec kind
has SpecifierOrStr kind = from namespace_spec named_spec kind || kind == str
has Str kind = kind == str

-- the encoding of the text, or none where there is no text
abbrev pub text_of : ℕ → Option Encoding
text_of kind = cond (among (ident ∷ private_name ∷ shorthand ∷ []) kind) (Some Utf8) (cond (kind == str) (Some Wtf8) None)

-- the highest mark
abbrev pub highest_mark : ℕ → ℕ
highest_mark kind = cond (among (program ∷ num ∷ assign ∷ []) kind) 1 0

-- the fewest children
abbrev pub fewest : ℕ → ℕ
fewest kind =
    cond (among (member ∷ assign ∷ key_value ∷ method ∷ key_value_pat ∷ assign_pat ∷ []) kind) 2
    (cond (among (call ∷ spread ∷ computed ∷ paren ∷ seq ∷ getter ∷ setter ∷ fn_expr ∷ arrow ∷ declarator ∷ assign_pat_prop ∷ rest_pat ∷ export_all ∷ export_decl ∷ namespace_spec ∷ default_spec ∷ named_spec ∷ export_default ∷ class_decl ∷ fn_decl ∷ ts_enum ∷ ts_module ∷ []) kind) 1
    0)

-- the most children, or none where there is no limit
abbrev pub most : ℕ → Option ℕ
most kind =
    cond (among (ident ∷ str ∷ num ∷ other_lit ∷ private_name ∷ shorthand ∷ []) kind) (Some 0)
    (cond (among (spread ∷ computed ∷ paren ∷ «return» ∷ rest_pat ∷ export_all ∷ export_decl ∷ namespace_spec ∷ default_spec ∷ export_default ∷ []) kind) (Some 1)
    (cond (among (member ∷ assign ∷ key_value ∷ getter ∷ method ∷ fn_expr ∷ declarator ∷ key_value_pat ∷ assign_pat_prop ∷ assign_pat ∷ named_spec ∷ []) kind) (Some 2)
    None))

-- the group of the children that may be any number; for a Program it is told by the mark too
abbrev pub repeated : ℕ → ℕ → Group
repeated kind mark =
    cond (kind == object) Property
    (cond (kind == function) NotBlock
    (cond (among (var_decl ∷ using_decl ∷ []) kind) Declarator
    (cond (kind == object_pat) PatternProperty
    (cond (kind == export_named) Specifier
    (cond (kind == program && mark == 1) NotModuleItem
    Any)))))

-- the group of the first child
abbrev pub first_child : ℕ → ℕ → Group
first_child kind mark =
    cond (among (key_value ∷ getter ∷ setter ∷ method ∷ key_value_pat ∷ []) kind) Key
    (cond (among (fn_expr ∷ assign_pat_prop ∷ default_spec ∷ class_decl ∷ fn_decl ∷ ts_enum ∷ []) kind) Ident
    (cond (among (namespace_spec ∷ named_spec ∷ ts_module ∷ []) kind) Name
    (cond (kind == export_all) Str
    (cond (kind == export_decl) Declaration
    (repeated kind mark)))))

-- the group of each child after the first
abbrev pub later_child : ℕ → ℕ → Group
later_child kind mark =
    cond (kind == member) MemberProperty
    (cond (kind == getter) Block
    (cond (kind == method) Function
    (cond (kind == named_spec) Name
    (repeated kind mark))))

-- the group of the last child, where it differs from that of its place
abbrev pub last_child : ℕ → Option Group
last_child kind =
    cond (kind == function) (Some Any)
    (cond (kind == fn_expr) (Some Function)
    (cond (kind == export_named) (Some SpecifierOrStr)
    None))
