-- The table of kinds line by line, as docs/TREE.md has it.
use Rattle.std.specs.Prelude.{◌≡◌, ℕ, ◌<◌, List, [], ◌∷◌, length, Some, None, Option, ◌≢◌, slice_index_or}
use Rattle.kinds.specs.declared.shape.Group.{Group}
use Rattle.kinds.specs.declared.shape.Group.TheVariants.{Any, Block, Declaration, Declarator, Function, Ident, Key, MemberProperty, Name, NotBlock, NotModuleItem, PatternProperty, Property, Specifier, SpecifierOrStr, Str}
use Rattle.kinds.specs.declared.shape.Encoding.{Encoding}
use Rattle.kinds.specs.declared.shape.Encoding.TheVariants.{Utf8, Wtf8}
use Rattle.kinds.specs.Kinds.{program}
use Rattle.kinds.specs.Shape.{first_child, fewest, highest_mark, last_child, later_child, most, text_of}

-- a line of the table: the text, the highest mark, the fewest and the most children, and the groups of the first child, of the others and of the last
pub record Line : Type 0 where
  pub text : Option Encoding
  pub highest : ℕ
  pub least : ℕ
  pub limit : Option ℕ
  pub first : Group
  pub others : Group
  pub last : Option Group

abbrev line : Option Encoding → ℕ → ℕ → Option ℕ → Group → Group → Option Group → Line
line text highest least limit first others last = record { text = text; highest = highest; least = least; limit = limit; first = first; others = others; last = last }

abbrev absent : Option Encoding
absent = None

abbrev utf8 : Option Encoding
utf8 = Some Utf8

abbrev wtf8 : Option Encoding
wtf8 = Some Wtf8

abbrev many : Option ℕ
many = None

abbrev up_to : ℕ → Option ℕ
up_to n = Some n

abbrev pub table : List Line
table =
    line absent 0 0 many Any Any None ∷  -- 0 Other
    line absent 1 0 many Any Any None ∷  -- 1 Program
    line utf8 0 0 (up_to 0) Any Any None ∷  -- 2 Ident
    line wtf8 0 0 (up_to 0) Any Any None ∷  -- 3 Str
    line absent 1 0 (up_to 0) Any Any None ∷  -- 4 Num
    line absent 0 0 (up_to 0) Any Any None ∷  -- 5 OtherLit
    line absent 0 1 many Any Any None ∷  -- 6 Call
    line absent 0 1 (up_to 1) Any Any None ∷  -- 7 Spread
    line absent 0 2 (up_to 2) Any MemberProperty None ∷  -- 8 Member
    line utf8 0 0 (up_to 0) Any Any None ∷  -- 9 PrivateName
    line absent 0 1 (up_to 1) Any Any None ∷  -- 10 Computed
    line absent 0 1 (up_to 1) Any Any None ∷  -- 11 Paren
    line absent 0 1 many Any Any None ∷  -- 12 Seq
    line absent 1 2 (up_to 2) Any Any None ∷  -- 13 Assign
    line absent 0 0 many Property Property None ∷  -- 14 Object
    line absent 0 2 (up_to 2) Key Any None ∷  -- 15 KeyValue
    line utf8 0 0 (up_to 0) Any Any None ∷  -- 16 Shorthand
    line absent 0 1 (up_to 2) Key Block None ∷  -- 17 Getter
    line absent 0 1 many Key Any None ∷  -- 18 Setter
    line absent 0 2 (up_to 2) Key Function None ∷  -- 19 Method
    line absent 0 0 many NotBlock NotBlock (Some Any) ∷  -- 20 Function
    line absent 0 1 (up_to 2) Ident Any (Some Function) ∷  -- 21 FnExpr
    line absent 0 1 many Any Any None ∷  -- 22 Arrow
    line absent 0 0 many Any Any None ∷  -- 23 Block
    line absent 0 0 (up_to 1) Any Any None ∷  -- 24 Return
    line absent 0 0 many Declarator Declarator None ∷  -- 25 VarDecl
    line absent 0 0 many Declarator Declarator None ∷  -- 26 UsingDecl
    line absent 0 1 (up_to 2) Any Any None ∷  -- 27 Declarator
    line absent 0 0 many Any Any None ∷  -- 28 ArrayPat
    line absent 0 0 many PatternProperty PatternProperty None ∷  -- 29 ObjectPat
    line absent 0 2 (up_to 2) Key Any None ∷  -- 30 KeyValuePat
    line absent 0 1 (up_to 2) Ident Any None ∷  -- 31 AssignPatProp
    line absent 0 1 (up_to 1) Any Any None ∷  -- 32 RestPat
    line absent 0 2 (up_to 2) Any Any None ∷  -- 33 AssignPat
    line absent 0 0 many Any Any None ∷  -- 34 Import
    line absent 0 1 (up_to 1) Str Any None ∷  -- 35 ExportAll
    line absent 0 1 (up_to 1) Declaration Any None ∷  -- 36 ExportDecl
    line absent 0 0 many Specifier Specifier (Some SpecifierOrStr) ∷  -- 37 ExportNamed
    line absent 0 1 (up_to 1) Name Any None ∷  -- 38 NamespaceSpec
    line absent 0 1 (up_to 1) Ident Any None ∷  -- 39 DefaultSpec
    line absent 0 1 (up_to 2) Name Name None ∷  -- 40 NamedSpec
    line absent 0 1 (up_to 1) Any Any None ∷  -- 41 ExportDefault
    line absent 0 0 many Any Any None ∷  -- 42 TsImportEquals
    line absent 0 0 many Any Any None ∷  -- 43 TsExportAssignment
    line absent 0 0 many Any Any None ∷  -- 44 TsNamespaceExport
    line absent 0 1 many Ident Any None ∷  -- 45 ClassDecl
    line absent 0 1 many Ident Any None ∷  -- 46 FnDecl
    line absent 0 1 many Ident Any None ∷  -- 47 TsEnum
    line absent 0 1 many Name Any None ∷  -- 48 TsModule
    line absent 0 0 many Any Any None ∷  -- 49 TypeDecl
    []

-- a Program that is a script
abbrev pub script_line : Line
script_line = line absent 1 0 many NotModuleItem NotModuleItem None

-- past the kinds there is no line
abbrev pub no_line : Line
no_line = line absent 0 0 many Any Any None

-- the columns at a kind and a mark
abbrev pub columns : ℕ → ℕ → Line
columns kind mark = line (text_of kind) (highest_mark kind) (fewest kind) (most kind) (first_child kind mark) (later_child kind mark) (last_child kind)

-- the columns make up the table, but that the children of a script differ from those of a module
pub record ColumnsAreTheTable : Type 0 where
  pub lines : length table ≡ 50
  pub modules : (kind : ℕ) → kind < 50 → columns kind 0 ≡ slice_index_or table kind no_line
  pub other_marks : (kind mark : ℕ) → (kind ≢ program) → columns kind mark ≡ columns kind 0
  pub scripts : columns program 1 ≡ script_line
