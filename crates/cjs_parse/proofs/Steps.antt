-- One event on four tables, and events one after the other.
use Rattle.std.proofs.Common.{◌≡◌, ℕ, ◌≤◌, Bool, true, false, cond, List, [], ◌∷◌, length, take, is_err, is_ok, Some, None, Ok, Err, Result, sym, refl, ap, ◌∙◌, subst, true≢false, arith}
use Rattle.std.proofs.lemmas.Bool.{false_from_ne_true}
use Rattle.std.proofs.lemmas.List.{length-take-le}
use Rattle.table.specs.Table.{Rest}
use Rattle.table.specs.Kind.{Enters, Inserts, Kind, Leaves, Ordered, Puts}
use Rattle.table.specs.Kinds.{places, bindings as binding_kind}
use Rattle.table.specs.declared.binding.Binding.{Binding}
use Rattle.table.specs.declared.table.Full.{Full}
use Rattle.table.specs.declared.table.OrderedTable.{OrderedTable}
use Rattle.text.specs.declared.place.Place.{Place}
use Rattle.table.proofs.Entered.{length_left, stored_left, take_left}
use Rattle.findings.proofs.Leaving.{lenders_kept, own_lenders}
use Rattle.findings.specs.Tables.{Found, Room, SameLenders, room_of}
use Rattle.findings.specs.declared.tables.FindingsTables.{FindingsTables}
use Rattle.cjs_law.specs.declared.event.Event.{Event}
use Rattle.cjs_law.specs.declared.event.Event.TheVariants.{Bind, Export, Reexport, Unsafe, Replace}
use Rattle.cjs_law.specs.Findings.{Fits, fits}
use Rattle.cjs_law.proofs.Stands.{fits_so, so_fits}
use Rattle.cjs_parse.specs.State.{Kept, Moved, Moves, Sound, Stuck, apply, goes, state}

rest_fits : {X : Type 0} (z : X) (n : ℕ) (rows : List X) → Rest z n rows → length (take n rows) ≤ length rows
rest_fits z n rows r = let e = length-take-le n rows r.fits in let f = r.fits in (omega arith)

by_test : (T : List ℕ) (k : Room) (e : Event) (f : Found) (t : Bool) → fits k (apply T e f) ≡ t → goes T k (e ∷ []) f ≡ cond t (Some (apply T e f)) None
unfolding goes
by_test T k e f t h = ap (λ b. cond b (Some (apply T e f)) None) h

one_fits : (T : List ℕ) (k : Room) (e : Event) (f : Found) → Fits k (apply T e f) → goes T k (e ∷ []) f ≡ Some (apply T e f)
one_fits T k e f h = by_test T k e f true (so_fits k (apply T e f) h)

one_full : (T : List ℕ) (k : Room) (e : Event) (f : Found) → (Fits k (apply T e f) → ⊥) → goes T k (e ∷ []) f ≡ None
one_full T k e f n = by_test T k e f false (false_from_ne_true (fits k (apply T e f)) (λ h. n (fits_so k (apply T e f) h)))

pub stuck_by : (T : List ℕ) (v : FindingsTables) (es : List Event) (w : FindingsTables) (r : Result (Unit {0}) Full) → is_err r ≡ true → Stuck T v es w → Moves T v es r w
stuck_by T v es w (Ok x) e s = absurd (true≢false (sym e))
stuck_by T v es w (Err x) e s = s

-- tables in order that hold what the event asks for have taken it in
entered : (T : List ℕ) (v w : FindingsTables) (e : Event) → Sound T w → SameLenders v w → room_of w ≡ room_of v → state w ≡ apply T e (state v) → Moved T v (e ∷ []) w
entered T v w e s l k is =
    let own : Fits (room_of w) (state w) = record { bindings = rest_fits _ _ _ s.bindings.rest; exports = rest_fits _ _ _ s.exports.rest; reexports = rest_fits _ _ _ s.reexports.rest; unsafes = rest_fits _ _ _ s.unsafes.rest } in
    record {
      to = one_fits T (room_of v) e (state v) (subst (λ f. Fits (room_of v) f) is (subst (λ r. Fits r (state w)) k own)) ∙ ap Some (sym is);
      kept = record { room = k; lenders = l };
      sound = s;
    }

-- a row that went into one of the tables: that table is to hold ys then, and `put` makes the four tables of what stands in its place
module _ (T : List ℕ) (v : FindingsTables) where
  module _ {X : Type 0} (k : Kind X) (ys : List X) (was : OrderedTable X) (e : Event) (put : OrderedTable X → FindingsTables)
      (sound : (t : OrderedTable X) → Ordered k T t → Sound T (put t)) (lenders : (t : OrderedTable X) → t.rows.ghost_name ≡ was.rows.ghost_name → SameLenders v (put t))
      (room : (t : OrderedTable X) → length t.rows.now ≡ length was.rows.now → room_of (put t) ≡ room_of v) (holds : (t : OrderedTable X) → take t.len t.rows.now ≡ ys → state (put t) ≡ apply T e (state v)) where
    went_in : (t : OrderedTable X) (r : Result Bool Full) → is_ok r ≡ true → Enters k ys was r t → Ordered k T t → Moved T v (e ∷ []) (put t)
    went_in t (Ok new) q i o = entered T v (put t) e (sound t o) (lenders t i.lender) (room t (length_left (stored_left i.rows) i.rows.room)) (holds t (take_left (stored_left i.rows)))
    went_in t (Err x) q i o = absurd (true≢false (sym q))

  pub exported : (p : Place) (t : OrderedTable Place) (r : Result Bool Full) → Sound T v → is_ok r ≡ true → Inserts places T p v.exports r t → Ordered places T t → Moved T v (Export p ∷ []) (record { bindings = v.bindings; exports = t; reexports = v.reexports; unsafes = v.unsafes })
  exported p t r h q i o =
      went_in places _ v.exports (Export p) (λ t. record { bindings = v.bindings; exports = t; reexports = v.reexports; unsafes = v.unsafes })
      (λ t o. record { bindings = h.bindings; exports = o; reexports = h.reexports; unsafes = h.unsafes })
      (λ t l. record { bindings = refl; exports = l; reexports = refl; unsafes = refl })
      (λ t k n. record { bindings = (room_of v).bindings; exports = k n; reexports = (room_of v).reexports; unsafes = (room_of v).unsafes })
      (λ t k n. record { bindings = (state v).bindings; exports = k n; reexports = (state v).reexports; unsafes = (state v).unsafes })
      t r q i o

  pub reexported : (p : Place) (t : OrderedTable Place) (r : Result Bool Full) → Sound T v → is_ok r ≡ true → Inserts places T p v.reexports r t → Ordered places T t → Moved T v (Reexport p ∷ []) (record { bindings = v.bindings; exports = v.exports; reexports = t; unsafes = v.unsafes })
  reexported p t r h q i o =
      went_in places _ v.reexports (Reexport p) (λ t. record { bindings = v.bindings; exports = v.exports; reexports = t; unsafes = v.unsafes })
      (λ t o. record { bindings = h.bindings; exports = h.exports; reexports = o; unsafes = h.unsafes })
      (λ t l. record { bindings = refl; exports = refl; reexports = l; unsafes = refl })
      (λ t k n. record { bindings = (room_of v).bindings; exports = (room_of v).exports; reexports = k n; unsafes = (room_of v).unsafes })
      (λ t k n. record { bindings = (state v).bindings; exports = (state v).exports; reexports = k n; unsafes = (state v).unsafes })
      t r q i o

  pub marked_unsafe : (p : Place) (t : OrderedTable Place) (r : Result Bool Full) → Sound T v → is_ok r ≡ true → Inserts places T p v.unsafes r t → Ordered places T t → Moved T v (Unsafe p ∷ []) (record { bindings = v.bindings; exports = v.exports; reexports = v.reexports; unsafes = t })
  marked_unsafe p t r h q i o =
      went_in places _ v.unsafes (Unsafe p) (λ t. record { bindings = v.bindings; exports = v.exports; reexports = v.reexports; unsafes = t })
      (λ t o. record { bindings = h.bindings; exports = h.exports; reexports = h.reexports; unsafes = o })
      (λ t l. record { bindings = refl; exports = refl; reexports = refl; unsafes = l })
      (λ t k n. record { bindings = (room_of v).bindings; exports = (room_of v).exports; reexports = (room_of v).reexports; unsafes = k n })
      (λ t k n. record { bindings = (state v).bindings; exports = (state v).exports; reexports = (state v).reexports; unsafes = k n })
      t r q i o

  pub bound : (name value : Place) (t : OrderedTable Binding) (r : Result Bool Full) → Sound T v → is_ok r ≡ true → Puts binding_kind T (record { name = name; value = value }) v.bindings r t → Ordered binding_kind T t → Moved T v (Bind name value ∷ []) (record { bindings = t; exports = v.exports; reexports = v.reexports; unsafes = v.unsafes })
  bound name value t r h q i o =
      went_in binding_kind _ v.bindings (Bind name value) (λ t. record { bindings = t; exports = v.exports; reexports = v.reexports; unsafes = v.unsafes })
      (λ t o. record { bindings = o; exports = h.exports; reexports = h.reexports; unsafes = h.unsafes })
      (λ t l. record { bindings = l; exports = refl; reexports = refl; unsafes = refl })
      (λ t k n. record { bindings = k n; exports = (room_of v).exports; reexports = (room_of v).reexports; unsafes = (room_of v).unsafes })
      (λ t k n. record { bindings = k n; exports = (state v).exports; reexports = (state v).reexports; unsafes = (state v).unsafes })
      t r q i o

-- tables that have no room for what the event asks for are stuck
pub no_room : (T : List ℕ) (v w : FindingsTables) (e : Event) (r : Result (Unit {0}) Full) → is_err r ≡ true → SameLenders v w → room_of w ≡ room_of v → (Fits (room_of v) (apply T e (state v)) → ⊥) → Moves T v (e ∷ []) r w
no_room T v w e r q l k n = stuck_by T v (e ∷ []) w r q (record { full = one_full T (room_of v) e (state v) n; kept = record { room = k; lenders = l } })

pub moved_none : (T : List ℕ) (v : FindingsTables) (es : List Event) → Sound T v → es ≡ [] → Moved T v es v
unfolding goes
moved_none T v es s e = record { to = ap (λ l. goes T (room_of v) l (state v)) e; kept = record { room = refl; lenders = own_lenders v }; sound = s }

pub kept_on : (u v w : FindingsTables) → Kept u v → Kept v w → Kept u w
kept_on u v w a b = record { room = b.room ∙ a.room; lenders = lenders_kept u v w a.lenders b.lenders }

replace_is : (T : List ℕ) (k : Room) (p : Place) (f : Found) → goes T k (Replace p ∷ []) f ≡ goes T k (Reexport p ∷ []) (record { bindings = f.bindings; exports = f.exports; reexports = []; unsafes = f.unsafes })
unfolding goes
replace_is T k p f = refl

-- a re-export into an emptied table is what a replacement does
module _ (T : List ℕ) (v : FindingsTables) (p : Place) (t : OrderedTable Place) (emptied : Leaves places [] v.reexports t) where
  abbrev u : FindingsTables
  u = record { bindings = v.bindings; exports = v.exports; reexports = t; unsafes = v.unsafes }

  same_room : room_of u ≡ room_of v
  same_room = λ i. record { bindings = (room_of v).bindings; exports = (room_of v).exports; reexports = length_left emptied.rows (omega arith) i; unsafes = (room_of v).unsafes }

  goes_as : goes T (room_of v) (Replace p ∷ []) (state v) ≡ goes T (room_of u) (Reexport p ∷ []) (state u)
  goes_as =
      replace_is T (room_of v) p (state v)
      ∙ sym (λ i. goes T (same_room i) (Reexport p ∷ []) (record { bindings = (state v).bindings; exports = (state v).exports; reexports = take_left emptied.rows i; unsafes = (state v).unsafes }))

  same_rows : Kept v u
  same_rows = record { room = same_room; lenders = record { bindings = refl; exports = refl; reexports = emptied.lender; unsafes = refl } }

  pub replaced : (r : Result (Unit {0}) Full) (w : FindingsTables) → Moves T u (Reexport p ∷ []) r w → Moves T v (Replace p ∷ []) r w
  replaced (Ok x) w m = record { to = goes_as ∙ m.to; kept = kept_on v u w same_rows m.kept; sound = m.sound }
  replaced (Err x) w m = record { full = goes_as ∙ m.full; kept = kept_on v u w same_rows m.kept }
