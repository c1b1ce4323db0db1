-- The kinds of rows, and the number of each in a tree block.
use Rattle.std.specs.Prelude.{◌≡◌, ℕ, ◌≤◌, Result, MatchResult}
use Rattle.kinds.specs.declared.kind.Kind.{Kind}
use Rattle.kinds.specs.declared.kind.Kind.TheVariants.{Other, Program, Ident, Str, Num, OtherLit, Call, Spread, Member, PrivateName, Computed, Paren, Seq, Assign, Object, KeyValue, Shorthand, Getter, Setter, Method, Function, FnExpr, Arrow, Block, Return, VarDecl, UsingDecl, Declarator, ArrayPat, ObjectPat, KeyValuePat, AssignPatProp, RestPat, AssignPat, Import, ExportAll, ExportDecl, ExportNamed, NamespaceSpec, DefaultSpec, NamedSpec, ExportDefault, TsImportEquals, TsExportAssignment, TsNamespaceExport, ClassDecl, FnDecl, TsEnum, TsModule, TypeDecl}
use Rattle.kinds.specs.declared.kind.UnknownKind.{UnknownKind}
use Rattle.kinds.specs.Kinds.{other, program, ident, str, num, other_lit, call, spread, member, private_name, computed, paren, seq, assign, object, key_value, shorthand, getter, setter, method, function, fn_expr, arrow, block, «return», var_decl, using_decl, declarator, array_pat, object_pat, key_value_pat, assign_pat_prop, rest_pat, assign_pat, «import», export_all, export_decl, export_named, namespace_spec, default_spec, named_spec, export_default, ts_import_equals, ts_export_assignment, ts_namespace_export, class_decl, fn_decl, ts_enum, ts_module, type_decl}

abbrev pub number : Kind → ℕ
number Other = other
number Program = program
number Ident = ident
number Str = str
number Num = num
number OtherLit = other_lit
number Call = call
number Spread = spread
number Member = member
number PrivateName = private_name
number Computed = computed
number Paren = paren
number Seq = seq
number Assign = assign
number Object = object
number KeyValue = key_value
number Shorthand = shorthand
number Getter = getter
number Setter = setter
number Method = method
number Function = function
number FnExpr = fn_expr
number Arrow = arrow
number Block = block
number Return = «return»
number VarDecl = var_decl
number UsingDecl = using_decl
number Declarator = declarator
number ArrayPat = array_pat
number ObjectPat = object_pat
number KeyValuePat = key_value_pat
number AssignPatProp = assign_pat_prop
number RestPat = rest_pat
number AssignPat = assign_pat
number Import = «import»
number ExportAll = export_all
number ExportDecl = export_decl
number ExportNamed = export_named
number NamespaceSpec = namespace_spec
number DefaultSpec = default_spec
number NamedSpec = named_spec
number ExportDefault = export_default
number TsImportEquals = ts_import_equals
number TsExportAssignment = ts_export_assignment
number TsNamespaceExport = ts_namespace_export
number ClassDecl = class_decl
number FnDecl = fn_decl
number TsEnum = ts_enum
number TsModule = ts_module
number TypeDecl = type_decl

-- the kind with this number, or an error where no kind has it
abbrev pub Decodes : ℕ → Result Kind UnknownKind → Type 0
Decodes n r = MatchResult r (λ kind. number kind ≡ n) (λ e. (e.0 ≡ n) × (50 ≤ n))
