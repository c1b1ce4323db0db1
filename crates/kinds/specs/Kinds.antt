-- The kinds of rows, by number.
use Rattle.std.specs.Prelude.{ℕ}

abbrev pub other : ℕ
other = 0

abbrev pub program : ℕ
program = 1

abbrev pub ident : ℕ
ident = 2

abbrev pub str : ℕ
str = 3

abbrev pub num : ℕ
num = 4

abbrev pub other_lit : ℕ
other_lit = 5

abbrev pub call : ℕ
call = 6

abbrev pub spread : ℕ
spread = 7

abbrev pub member : ℕ
member = 8

abbrev pub private_name : ℕ
private_name = 9

abbrev pub computed : ℕ
computed = 10

abbrev pub paren : ℕ
paren = 11

abbrev pub seq : ℕ
seq = 12

abbrev pub assign : ℕ
assign = 13

abbrev pub object : ℕ
object = 14

abbrev pub key_value : ℕ
key_value = 15

abbrev pub shorthand : ℕ
shorthand = 16

abbrev pub getter : ℕ
getter = 17

abbrev pub setter : ℕ
setter = 18

abbrev pub method : ℕ
method = 19

abbrev pub function : ℕ
function = 20

abbrev pub fn_expr : ℕ
fn_expr = 21

abbrev pub arrow : ℕ
arrow = 22

abbrev pub block : ℕ
block = 23

abbrev pub return : ℕ
return = 24

abbrev pub var_decl : ℕ
var_decl = 25

abbrev pub using_decl : ℕ
using_decl = 26

abbrev pub declarator : ℕ
declarator = 27

abbrev pub array_pat : ℕ
array_pat = 28

abbrev pub object_pat : ℕ
object_pat = 29

abbrev pub key_value_pat : ℕ
key_value_pat = 30

abbrev pub assign_pat_prop : ℕ
assign_pat_prop = 31

abbrev pub rest_pat : ℕ
rest_pat = 32

abbrev pub assign_pat : ℕ
assign_pat = 33

abbrev pub import : ℕ
import = 34

abbrev pub export_all : ℕ
export_all = 35

abbrev pub export_decl : ℕ
export_decl = 36

abbrev pub export_named : ℕ
export_named = 37

abbrev pub namespace_spec : ℕ
namespace_spec = 38

abbrev pub default_spec : ℕ
default_spec = 39

abbrev pub named_spec : ℕ
named_spec = 40

abbrev pub export_default : ℕ
export_default = 41

abbrev pub ts_import_equals : ℕ
ts_import_equals = 42

abbrev pub ts_export_assignment : ℕ
ts_export_assignment = 43

abbrev pub ts_namespace_export : ℕ
ts_namespace_export = 44

abbrev pub class_decl : ℕ
class_decl = 45

abbrev pub fn_decl : ℕ
fn_decl = 46

abbrev pub ts_enum : ℕ
ts_enum = 47

abbrev pub ts_module : ℕ
ts_module = 48

abbrev pub type_decl : ℕ
type_decl = 49
