-- Rooms beside one another.
use Rattle.std.specs.Prelude.{Bool, ◌&&◌, nat_le}
use Rattle.findings.specs.Tables.{Room}

-- no table of the one room has more rows than its like of the other
abbrev pub is_within : Room → Room → Bool
is_within small large =
    nat_le small.bindings large.bindings && nat_le small.exports large.exports && nat_le small.reexports large.reexports && nat_le small.unsafes large.unsafes
