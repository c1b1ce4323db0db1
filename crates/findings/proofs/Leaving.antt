-- Tables that are emptied or filled keep their room and their lenders.
use Rattle.std.proofs.Common.{◌≡◌, ℕ, ◌≤◌, length, Result, refl, ◌∙◌, subst, arith}
use Rattle.table.proofs.Entered.{length_left}
use Rattle.findings.specs.Tables.{Analysed, Found, Hold, Leaves, Room, SameLenders, kept, nothing, room_of}
use Rattle.findings.specs.declared.refusal.FindingsFault.{FindingsFault}
use Rattle.findings.specs.declared.tables.FindingsTables.{FindingsTables}

pub own_lenders : (s : FindingsTables) → SameLenders s s
own_lenders s = record { bindings = refl; exports = refl; reexports = refl; unsafes = refl }

pub lenders_kept : (s t u : FindingsTables) → SameLenders s t → SameLenders t u → SameLenders s u
lenders_kept s t u a b =
    record { bindings = b.bindings ∙ a.bindings; exports = b.exports ∙ a.exports; reexports = b.reexports ∙ a.reexports; unsafes = b.unsafes ∙ a.unsafes }

-- tables that hold lists for which there is room have as many rows as they are said to have
pub room_held : (room : Room) (f : Found) (t : FindingsTables) → Hold room f t → length f.bindings ≤ room.bindings → length f.exports ≤ room.exports → length f.reexports ≤ room.reexports → length f.unsafes ≤ room.unsafes → room_of t ≡ room
room_held room f t h b e r u =
    λ i. record { bindings = length_left h.bindings b i; exports = length_left h.exports e i; reexports = length_left h.reexports r i; unsafes = length_left h.unsafes u i }

-- so do tables that hold nothing
pub room_emptied : (room : Room) (t : FindingsTables) → Hold room nothing t → room_of t ≡ room
room_emptied room t h = room_held room nothing t h (omega arith) (omega arith) (omega arith) (omega arith)

-- what emptied tables hold later was left in the tables as they were before
module _ (s t u : FindingsTables) (emptied : Leaves s nothing t) where
  pub left_before : (f : Found) → Leaves t f u → Leaves s f u
  left_before f l = record {
    holds = subst (λ room. Hold room f u) (room_emptied (room_of s) t emptied.holds) l.holds;
    lenders = lenders_kept s t u emptied.lenders l.lenders;
  }

  pub analysed_before : (m : ℕ) (outcome : Result Found ℕ) (r : Result (Unit {0}) FindingsFault) → Analysed m t outcome r u → Analysed m s outcome r u
  analysed_before m outcome r a = record { answer = a.answer; tables = left_before (kept outcome) a.tables }
