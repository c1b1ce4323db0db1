-- What the CommonJS analysis of a tree comes to.
use Rattle.std.specs.Prelude.{ℕ, List, Result}
use Rattle.tree.specs.declared.row.Row.{Row}
use Rattle.findings.specs.Tables.{Found, Room}
use Rattle.cjs_law.specs.Findings.{outcome}
use Rattle.cjs_law.specs.Walk.{acts_of}

-- of a text section and rows: the outcome of the acts of the walk over them, with tables of this room
abbrev pub cjs_outcome : Room → List ℕ → List Row → Result Found ℕ
cjs_outcome room T rs = outcome T room (acts_of T rs)
