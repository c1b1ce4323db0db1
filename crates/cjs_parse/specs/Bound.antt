-- What names are bound to, and what the analysis asks of a row's children.
use Rattle.std.specs.Prelude.{ℕ, ◌+◌, List, Some, Option}
use Rattle.text.specs.declared.place.Place.{Place}
use Rattle.tree.specs.Forest.{Forest}
use Rattle.cjs_rules.specs.Chain.{◌>>=◌, ◌>>◌}
use Rattle.cjs_law.specs.declared.event.Event.{Event}
use Rattle.cjs_rules.specs.Nodes.{Node, child, is}
use Rattle.kinds.specs.Kinds.{computed, ident}
use Rattle.cjs_parse.specs.State.{look}
use Rattle.cjs_parse.specs.declared.bindings.Bindings.{Bindings}

-- the specifier that a name is bound to
abbrev pub bound_in : Bindings → List ℕ → Option Place
bound_in b = look b.text.now b.rows.now

-- the name in the brackets of a property
abbrev pub key_name : Node → Option Node
key_name p = do
  is computed p
  k ← child 0 p.kids
  is ident k
  Some k

-- what two children, the first of them at place i, ask for
abbrev pub of_two : ℕ → (Node → Node → Option Event) → Forest → Option Event
of_two i asks kids = do
  a ← child i kids
  b ← child (i + 1) kids
  asks a b
