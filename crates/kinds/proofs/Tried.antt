-- The columns of the table of kinds, and the kinds by their numbers, tried at every kind.
use Rattle.std.proofs.Common.{◌≡◌, ℕ, zero, suc, ◌<◌, false, List, [], ◌∷◌, eqb, get_or, slice_index_or, refl, arith}
use Rattle.std.proofs.lemmas.Bool.{ne_eqb}
use Rattle.kinds.specs.Kinds.{program}
use Rattle.kinds.specs.Number.{number}
use Rattle.kinds.specs.declared.kind.Kind.{Kind}
use Rattle.kinds.specs.declared.kind.Kind.TheVariants.{Other, Program, Ident, Str, Num, OtherLit, Call, Spread, Member, PrivateName, Computed, Paren, Seq, Assign, Object, KeyValue, Shorthand, Getter, Setter, Method, Function, FnExpr, Arrow, Block, Return, VarDecl, UsingDecl, Declarator, ArrayPat, ObjectPat, KeyValuePat, AssignPatProp, RestPat, AssignPat, Import, ExportAll, ExportDecl, ExportNamed, NamespaceSpec, DefaultSpec, NamedSpec, ExportDefault, TsImportEquals, TsExportAssignment, TsNamespaceExport, ClassDecl, FnDecl, TsEnum, TsModule, TypeDecl}
use Rattle.kinds.specs.Table.{ColumnsAreTheTable, columns, no_line, table}

-- the rule at every number below n
abbrev Below : (ℕ → Type 0) → ℕ → Type 0
Below P zero = Unit {0}
Below P (suc n) = P zero × Below (λ k. P (suc k)) n

at : (P : ℕ → Type 0) (n : ℕ) → Below P n → (k : ℕ) → k < n → P k
at P zero b k h = absurd (omega arith)
at P (suc n) b zero h = b.0
at P (suc n) b (suc k) h = at (λ i. P (suc i)) n b.1 k (omega arith)

tried : Below (λ kind. columns kind 0 ≡ get_or table kind no_line) 50
tried = (refl, (refl, (refl, (refl, (refl, (refl, (refl, (refl, (refl, (refl, (refl, (refl, (refl, (refl, (refl, (refl, (refl, (refl, (refl, (refl, (refl, (refl, (refl, (refl, (refl, (refl, (refl, (refl, (refl, (refl, (refl, (refl, (refl, (refl, (refl, (refl, (refl, (refl, (refl, (refl, (refl, (refl, (refl, (refl, (refl, (refl, (refl, (refl, (refl, (refl, tt))))))))))))))))))))))))))))))))))))))))))))))))))

pub columns_are_the_table : ColumnsAreTheTable
columns_are_the_table = record {
  lines = refl;
  modules = at (λ kind. columns kind 0 ≡ get_or table kind no_line) 50 tried;
  other_marks = λ kind mark no_program. let e : eqb kind program ≡ false = ne_eqb kind program no_program in rw e;
  scripts = refl;
}

-- the kinds in the order of their numbers
abbrev pub kinds : List Kind
kinds = Other ∷ Program ∷ Ident ∷ Str ∷ Num ∷ OtherLit ∷ Call ∷ Spread ∷ Member ∷ PrivateName ∷ Computed ∷ Paren ∷ Seq ∷ Assign ∷ Object ∷ KeyValue ∷ Shorthand ∷ Getter ∷ Setter ∷ Method ∷ Function ∷ FnExpr ∷ Arrow ∷ Block ∷ Return ∷ VarDecl ∷ UsingDecl ∷ Declarator ∷ ArrayPat ∷ ObjectPat ∷ KeyValuePat ∷ AssignPatProp ∷ RestPat ∷ AssignPat ∷ Import ∷ ExportAll ∷ ExportDecl ∷ ExportNamed ∷ NamespaceSpec ∷ DefaultSpec ∷ NamedSpec ∷ ExportDefault ∷ TsImportEquals ∷ TsExportAssignment ∷ TsNamespaceExport ∷ ClassDecl ∷ FnDecl ∷ TsEnum ∷ TsModule ∷ TypeDecl ∷ []

numbered : Below (λ n. number (slice_index_or kinds n Other) ≡ n) 50
numbered = (refl, (refl, (refl, (refl, (refl, (refl, (refl, (refl, (refl, (refl, (refl, (refl, (refl, (refl, (refl, (refl, (refl, (refl, (refl, (refl, (refl, (refl, (refl, (refl, (refl, (refl, (refl, (refl, (refl, (refl, (refl, (refl, (refl, (refl, (refl, (refl, (refl, (refl, (refl, (refl, (refl, (refl, (refl, (refl, (refl, (refl, (refl, (refl, (refl, (refl, tt))))))))))))))))))))))))))))))))))))))))))))))))))

-- each stands at its number
pub at_its_number : (n : ℕ) → n < 50 → number (slice_index_or kinds n Other) ≡ n
at_its_number n h = at (λ k. number (slice_index_or kinds k Other) ≡ k) 50 numbered n h
