-- The analysis of a module: tables are emptied, two of them take in its items, and where an item is refused all are
-- emptied again.
use Rattle.std.proofs.Common.{◌≡◌, ℕ, true, false, cond, ◌&&◌, eqb, List, [], ◌++◌, length, is_err, Ok, Err, Result, sym, refl, ap, ◌∙◌, subst, true≢false}
use Rattle.std.specs.Prelude.{nat_le}
use Rattle.std.proofs.lemmas.Bool.{cond-false}
use Rattle.findings.specs.Tables.{Analysed, Hold, Leaves, Room, SameLenders, answered, kept, nothing, room_of}
use Rattle.findings.specs.declared.refusal.FindingsFault.{FindingsFault}
use Rattle.findings.specs.declared.refusal.FindingsFault.TheVariants.{Full as NoRoom}
use Rattle.findings.specs.declared.tables.FindingsTables.{FindingsTables}
use Rattle.findings.proofs.Leaving.{analysed_before, lenders_kept, room_emptied}
use Rattle.table.proofs.Entered.{take_left}
use Rattle.table.specs.declared.table.OrderedTable.{OrderedTable}
use Rattle.text.specs.declared.place.Place.{Place}
use Rattle.tree.specs.Forest.{Forest, children, nil, node, row_at}
use Rattle.tree.specs.declared.row.Row.{Row}
use Rattle.cjs_rules.specs.Nodes.{Node}
use Rattle.exports.specs.Append.{ItemsListed, outcome_after, room_for}
use Rattle.exports.specs.Beyond.{item_names}
use Rattle.exports.specs.ExportedNames.{star_of}
use Rattle.exports.specs.Listing.{es_outcome, listed, listing}

-- what items come to depends on the room for exports and re-exports alone
listed_by_two : (a b : Room) → a.exports ≡ b.exports → a.reexports ≡ b.reexports → (names stars : List Place) (f : Forest) → listed a names stars f ≡ listed b names stars f
listed_by_two a b e s names stars nil = refl
listed_by_two a b e s names stars (node j r f rest) =
    let n : Node = record { row = r; kids = f } in
    let on = listed_by_two a b e s (names ++ item_names n) (stars ++ star_of n) rest in
    λ i. cond (nat_le (length (names ++ item_names n)) (e i) && nat_le (length (stars ++ star_of n)) (s i)) (on i) (Err j)

module _ (v u : FindingsTables) (emptied : Leaves v nothing u) (exports reexports : OrderedTable Place) (m : ℕ) (rs : List Row) (mark : eqb (row_at rs 0).mark 1 ≡ false) where
  -- the tables that hold the items
  abbrev filled : FindingsTables
  filled = record { bindings = u.bindings; exports = exports; reexports = reexports; unsafes = u.unsafes }

  empty : Hold (room_of u) nothing u
  empty = rw (room_emptied (room_of v) u emptied.holds) emptied.holds

  outcome_is : es_outcome (room_of v) rs ≡ outcome_after u.exports u.reexports (children rs 0)
  outcome_is =
      let room : room_of v ≡ room_of u = sym (room_emptied (room_of v) u emptied.holds) in
      let two = room_for u.exports u.reexports in
      ap (listed (room_of v) [] []) (cond-false _ _ _ mark)
      ∙ listed_by_two (room_of v) two (ap (λ x. x.exports) room) (ap (λ x. x.reexports) room) [] [] (children rs 0)
      ∙ (λ i. listed two (sym (take_left empty.exports) i) (sym (take_left empty.reexports) i) (children rs 0))

  pub listed_analysed : (r : Result (Unit {0}) FindingsFault) → ItemsListed m (children rs 0) u.exports u.reexports r exports reexports → is_err r ≡ false → Analysed m v (es_outcome (room_of v) rs) r filled
  listed_analysed (Err x) l ok = absurd (true≢false ok)
  listed_analysed (Ok x) l ok =
      let o = outcome_is ∙ l.outcome in
      let leaves : Leaves u (listing l.names l.stars) filled = record {
        holds = record { bindings = empty.bindings; exports = l.exports.rows; reexports = l.reexports.rows; unsafes = empty.unsafes };
        lenders = record { bindings = refl; exports = l.exports.lender; reexports = l.reexports.lender; unsafes = refl };
      } in
      analysed_before v u filled emptied m _ (Ok tt) (record { answer = sym (ap (answered m) o); tables = subst (λ x. Leaves u (kept x) filled) (sym o) leaves })

  pub refused_analysed : (r : Result (Unit {0}) FindingsFault) → ItemsListed m (children rs 0) u.exports u.reexports r exports reexports → is_err r ≡ true → (x : FindingsTables) → Leaves filled nothing x → Analysed m v (es_outcome (room_of v) rs) r x
  refused_analysed (Ok y) l err x again = absurd (true≢false (sym err))
  refused_analysed (Err (NoRoom n j)) l err x again =
      let o = outcome_is ∙ l.1.outcome in
      let lenders : SameLenders u filled = record { bindings = refl; exports = l.1.lenders.0; reexports = l.1.lenders.1; unsafes = refl } in
      let room : room_of filled ≡ room_of u = λ i. record { bindings = (room_of u).bindings; exports = l.1.room.0 i; reexports = l.1.room.1 i; unsafes = (room_of u).unsafes } in
      let leaves : Leaves u nothing x = record { holds = subst (λ k. Hold k nothing x) room again.holds; lenders = lenders_kept u filled x lenders again.lenders } in
      analysed_before v u x emptied m _ (Err (NoRoom n j)) (record { answer = ap (λ k. Err (NoRoom k j)) l.0 ∙ sym (ap (answered m) o); tables = subst (λ y. Leaves u (kept y) x) (sym o) leaves })
