-- The names of properties, with their places and bytes.
use Rattle.std.specs.Prelude.{ℕ, List, Some, None, Option}
use Rattle.text.specs.declared.place.Place.{Place}
use Rattle.cjs_rules.specs.declared.prop_name.PropName.{PropName}
use Rattle.cjs_rules.specs.declared.prop_name.PropName.TheVariants.{Ident, Str}

-- an identifier, a string with a plain reading, or no name
pub data Name : Type 0 where
  named : Place → List ℕ → Name
  quoted : Place → List ℕ → Name
  nameless : Name

abbrev pub shown : Option PropName → Name
shown (Some (Ident p)) = named p.place p.bytes.now
shown (Some (Str p)) = quoted p.place p.bytes.now
shown None = nameless
