-- The tree blocks of the trials, byte by byte: each row is written by its kind, mark, text offset, text length and end.
use Rattle.std.specs.Prelude.{ℕ, ◌+◌, ◌*◌, ◌/◌, ◌%◌, List, [], ◌∷◌, ◌++◌, length, codes}
use Rattle.kinds.specs.Kinds.{array_pat, assign, assign_pat_prop, call, declarator, export_decl, ident, key_value_pat, member, num, object, object_pat, program, shorthand, str, var_decl}

-- a number by its four bytes, the lowest first
abbrev pub word : ℕ → List ℕ
word n = n % 256 ∷ n / 256 % 256 ∷ n / 65536 % 256 ∷ n / 16777216 % 256 ∷ []

abbrev pub row : ℕ → ℕ → ℕ → ℕ → ℕ → List ℕ
row kind mark offset count end = word kind ++ word mark ++ word offset ++ word count ++ word end

abbrev pub joined : List (List ℕ) → List ℕ
joined [] = []
joined (bytes ∷ more) = bytes ++ joined more

-- the header, the rows, the text
abbrev pub block : List ℕ → List (List ℕ) → List ℕ
block text rows =
    word 16 ++ word (20 * length rows) ++ word (16 + 20 * length rows) ++ word (length text) ++ joined rows ++ text

-- `exports.a = 1`
abbrev pub assigned : List ℕ
assigned =
    block (codes "exportsa") (
    row program 1 0 0 6 ∷
    row assign 0 0 0 6 ∷
    row member 0 0 0 5 ∷
    row ident 0 0 7 4 ∷
    row ident 0 7 1 5 ∷
    row num 0 0 0 6 ∷
    [])

-- `exports.a = 1; Object.defineProperty(exports, "a", { get })`
abbrev pub assigned_then_unsafe : List ℕ
assigned_then_unsafe =
    block (codes "exportsaObjectdefinePropertyget") (
    row program 1 0 0 14 ∷
    row assign 0 0 0 6 ∷
    row member 0 0 0 5 ∷
    row ident 0 0 7 4 ∷
    row ident 0 7 1 5 ∷
    row num 0 0 0 6 ∷
    row call 0 0 0 14 ∷
    row member 0 0 0 10 ∷
    row ident 0 8 6 9 ∷
    row ident 0 14 14 10 ∷
    row ident 0 0 7 11 ∷
    row str 0 7 1 12 ∷
    row object 0 0 0 14 ∷
    row shorthand 0 28 3 14 ∷
    [])

-- `Object.defineProperty(exports, "a", {})`
abbrev pub defined : List ℕ
defined =
    block (codes "ObjectdefinePropertyexportsa") (
    row program 1 0 0 8 ∷
    row call 0 0 0 8 ∷
    row member 0 0 0 5 ∷
    row ident 0 0 6 4 ∷
    row ident 0 6 14 5 ∷
    row ident 0 20 7 6 ∷
    row str 0 27 1 7 ∷
    row object 0 0 0 8 ∷
    [])

-- `Object.defineProperty(exports, "a", f)`
abbrev pub defined_by_another : List ℕ
defined_by_another =
    block (codes "ObjectdefinePropertyexportsaf") (
    row program 1 0 0 8 ∷
    row call 0 0 0 8 ∷
    row member 0 0 0 5 ∷
    row ident 0 0 6 4 ∷
    row ident 0 6 14 5 ∷
    row ident 0 20 7 6 ∷
    row str 0 27 1 7 ∷
    row ident 0 28 1 8 ∷
    [])

-- `__export(require("x")); module.exports = require("y")`
abbrev pub replaced : List ℕ
replaced =
    block (codes "__exportrequirexmoduleexportsy") (
    row program 1 0 0 13 ∷
    row call 0 0 0 6 ∷
    row ident 0 0 8 3 ∷
    row call 0 0 0 6 ∷
    row ident 0 8 7 5 ∷
    row str 0 15 1 6 ∷
    row assign 0 0 0 13 ∷
    row member 0 0 0 10 ∷
    row ident 0 16 6 9 ∷
    row ident 0 22 7 10 ∷
    row call 0 0 0 13 ∷
    row ident 0 8 7 12 ∷
    row str 0 29 1 13 ∷
    [])

-- `__export(require("x")); module.exports = f()`
abbrev pub not_replaced : List ℕ
not_replaced =
    block (codes "__exportrequirexmoduleexportsf") (
    row program 1 0 0 12 ∷
    row call 0 0 0 6 ∷
    row ident 0 0 8 3 ∷
    row call 0 0 0 6 ∷
    row ident 0 8 7 5 ∷
    row str 0 15 1 6 ∷
    row assign 0 0 0 12 ∷
    row member 0 0 0 10 ∷
    row ident 0 16 6 9 ∷
    row ident 0 22 7 10 ∷
    row call 0 0 0 12 ∷
    row ident 0 29 1 12 ∷
    [])

-- `var b = __export(a), a = require("x")`
abbrev pub bound_later : List ℕ
bound_later =
    block (codes "b__exportarequirex") (
    row program 1 0 0 12 ∷
    row var_decl 0 0 0 12 ∷
    row declarator 0 0 0 7 ∷
    row ident 0 0 1 4 ∷
    row call 0 0 0 7 ∷
    row ident 0 1 8 6 ∷
    row ident 0 9 1 7 ∷
    row declarator 0 0 0 12 ∷
    row ident 0 9 1 9 ∷
    row call 0 0 0 12 ∷
    row ident 0 10 7 11 ∷
    row str 0 17 1 12 ∷
    [])

-- `export const {a, b: [c]} = o`
abbrev pub pattern : List ℕ
pattern =
    block (codes "abco") (
    row program 0 0 0 12 ∷
    row export_decl 0 0 0 12 ∷
    row var_decl 0 0 0 12 ∷
    row declarator 0 0 0 12 ∷
    row object_pat 0 0 0 11 ∷
    row assign_pat_prop 0 0 0 7 ∷
    row ident 0 0 1 7 ∷
    row key_value_pat 0 0 0 11 ∷
    row ident 0 1 1 9 ∷
    row array_pat 0 0 0 11 ∷
    row ident 0 2 1 11 ∷
    row ident 0 3 1 12 ∷
    [])
