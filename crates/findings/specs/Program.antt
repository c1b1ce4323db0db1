-- A program as it is handed to an analysis: which of the two it is, and the tree that it borrows.
use Rattle.findings.specs.declared.parsed_source.ProgramKind.{ProgramKind}
use Rattle.findings.specs.declared.parsed_source.ProgramKind.TheVariants as kind
use Rattle.findings.specs.declared.parsed_source.ProgramRef.{ProgramRef}
use Rattle.findings.specs.declared.parsed_source.ProgramRef.TheVariants.{Module, Script}
use Rattle.tree.specs.declared.tree.Tree.{Tree}

-- the case of a program
abbrev pub program_case : ProgramRef → ProgramKind
program_case (Module m) = kind.Module
program_case (Script s) = kind.Script

-- the tree of a program
abbrev pub program_tree : ProgramRef → Tree
program_tree (Module m) = m.tree.now
program_tree (Script s) = s.tree.now
