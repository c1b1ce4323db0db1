-- The lists hold what the acts say, and nothing else.
use Rattle.std.proofs.Common.{◌≡◌, ℕ, ◌⊎◌, ◌↔◌, List, [], ◌∷◌, ◌++◌, map, sym, refl, ap, ◌∙◌, subst, inl, inr, ⊎_elim, arith}
use Rattle.text.specs.declared.place.Place.{Place}
use Rattle.findings.specs.Tables.{Found}
use Rattle.cjs_law.specs.declared.event.Event.{Event}
use Rattle.cjs_law.specs.declared.event.Event.TheVariants.{Bind, Export, Reexport, Replace, Unsafe}
use Rattle.cjs_law.specs.Findings.{Finds, exported, exported_by, gathered, loosely, marked_unsafe, reexported, reexported_after, reexported_by, unsafe_by}
use Rattle.cjs_law.specs.Laws.{Adds, Exports, MarksUnsafe, Reexports}
use Rattle.cjs_law.specs.Lists.{Has, In}
use Rattle.cjs_law.specs.Walk.{Act}
use Rattle.cjs_law.proofs.Listed.{has_listed, in_marked}
use Rattle.cjs_law.proofs.Members.{in_either, in_left, in_right}

-- some act has the event of this sort with the place
abbrev SomeAct : (Place → Event) → List Act → Place → Type 0
SomeAct sort acts p = (a : Act) × In a acts × (a.event ≡ sort p)

-- what is gathered is what some act says, where an event puts a place before the others exactly if it is of this sort
module _ (sort : Place → Event) (by : Event → List Place → List Place) (only : (e : Event) (ps : List Place) (p : Place) → In p (by e ps) → (e ≡ sort p) ⊎ In p ps) (stays : (e : Event) (ps : List Place) (p : Place) → In p ps → In p (by e ps)) (comes : (ps : List Place) (p : Place) → In p (by (sort p) ps)) where
  gathered_said : (acts : List Act) (p : Place) → In p (gathered by acts) → SomeAct sort acts p
  gathered_said [] p i = absurd i
  gathered_said (a ∷ acts) p i = ⊎_elim
      (λ e. (a, inl refl, e))
      (λ j. let s = gathered_said acts p j in (s.0, inr s.1, s.2))
      (only a.event (gathered by acts) p i)

  said_gathered : (acts : List Act) (p : Place) (a : Act) → In a acts → a.event ≡ sort p → In p (gathered by acts)
  said_gathered [] p a i e = absurd i
  said_gathered (b ∷ acts) p a (inl q) e = subst (λ x. In p (by x (gathered by acts))) (sym (ap (λ z. z.event) (sym q) ∙ e)) (comes (gathered by acts) p)
  said_gathered (b ∷ acts) p a (inr i) e = stays b.event (gathered by acts) p (said_gathered acts p a i e)

exported_only : (e : Event) (ps : List Place) (p : Place) → In p (exported_by e ps) → (e ≡ Export p) ⊎ In p ps
exported_only (Bind k v) ps p i = inr i
exported_only (Export q) ps p (inl s) = inl (ap Export (sym s))
exported_only (Export q) ps p (inr i) = inr i
exported_only (Unsafe q) ps p i = inr i
exported_only (Reexport q) ps p i = inr i
exported_only (Replace q) ps p i = inr i

exported_stays : (e : Event) (ps : List Place) (p : Place) → In p ps → In p (exported_by e ps)
exported_stays (Bind k v) ps p i = i
exported_stays (Export q) ps p i = inr i
exported_stays (Unsafe q) ps p i = i
exported_stays (Reexport q) ps p i = i
exported_stays (Replace q) ps p i = i

unsafe_only : (e : Event) (ps : List Place) (p : Place) → In p (unsafe_by e ps) → (e ≡ Unsafe p) ⊎ In p ps
unsafe_only (Bind k v) ps p i = inr i
unsafe_only (Export q) ps p i = inr i
unsafe_only (Unsafe q) ps p (inl s) = inl (ap Unsafe (sym s))
unsafe_only (Unsafe q) ps p (inr i) = inr i
unsafe_only (Reexport q) ps p i = inr i
unsafe_only (Replace q) ps p i = inr i

unsafe_stays : (e : Event) (ps : List Place) (p : Place) → In p ps → In p (unsafe_by e ps)
unsafe_stays (Bind k v) ps p i = i
unsafe_stays (Export q) ps p i = i
unsafe_stays (Unsafe q) ps p i = inr i
unsafe_stays (Reexport q) ps p i = i
unsafe_stays (Replace q) ps p i = i

module _ (acts : List Act) (p : Place) where
  exported_said : In p (exported acts) → SomeAct Export acts p
  exported_said = gathered_said Export exported_by exported_only exported_stays (λ ps p. inl refl) acts p

  said_exported : (a : Act) → In a acts → a.event ≡ Export p → In p (exported acts)
  said_exported = said_gathered Export exported_by exported_only exported_stays (λ ps p. inl refl) acts p

  unsafe_said : In p (marked_unsafe acts) → SomeAct Unsafe acts p
  unsafe_said = gathered_said Unsafe unsafe_by unsafe_only unsafe_stays (λ ps p. inl refl) acts p

  said_unsafe : (a : Act) → In a acts → a.event ≡ Unsafe p → In p (marked_unsafe acts)
  said_unsafe = said_gathered Unsafe unsafe_by unsafe_only unsafe_stays (λ ps p. inl refl) acts p

-- the re-exports since the last clearing

abbrev pub NoClearing : List Act → Type 0
NoClearing acts = (b : Act) (q : Place) → In b acts → b.event ≡ Replace q → ⊥

-- listed before and never cleared, or added since
abbrev StaysOrAdded : List Place → List Act → Place → Type 0
StaysOrAdded ps acts p = (In p ps × NoClearing acts) ⊎ Adds acts p

abbrev pub later_adds : (a : Act) (acts : List Act) (p : Place) → Adds acts p → Adds (a ∷ acts) p
later_adds a acts p d = record { before = a ∷ d.before; act = d.act; after = d.after; split = ap (λ l. a ∷ l) d.split; adds = d.adds; last = d.last }

pub no_clearing_more : (a : Act) (acts : List Act) → ((q : Place) → a.event ≡ Replace q → ⊥) → NoClearing acts → NoClearing (a ∷ acts)
no_clearing_more a acts n f b q (inl s) e = n q (ap (λ z. z.event) (sym s) ∙ e)
no_clearing_more a acts n f b q (inr i) e = f b q i e

keeps : (a : Act) (acts : List Act) (ps : List Place) (p : Place) → ((q : Place) → a.event ≡ Replace q → ⊥) → StaysOrAdded ps acts p → StaysOrAdded ps (a ∷ acts) p
keeps a acts ps p n (inl s) = inl (s.0, no_clearing_more a acts n s.1)
keeps a acts ps p n (inr d) = inr (later_adds a acts p d)

abbrev pub adds_here : (a : Act) (acts : List Act) (p : Place) → (a.event ≡ Reexport p) ⊎ (a.event ≡ Replace p) → NoClearing acts → Adds (a ∷ acts) p
adds_here a acts p e n = record { before = []; act = a; after = acts; split = refl; adds = e; last = n }

reexported_at : (e : Event) (a : Act) (acts : List Act) (ps : List Place) (p : Place) → a.event ≡ e → StaysOrAdded (reexported_by e ps) acts p → StaysOrAdded ps (a ∷ acts) p
reexported_at (Bind k v) a acts ps p e s = keeps a acts ps p (λ q r. let z : ◌≡◌ {A = ℕ} 0 1 = cc in omega arith) s
reexported_at (Export x) a acts ps p e s = keeps a acts ps p (λ q r. let z : ◌≡◌ {A = ℕ} 0 1 = cc in omega arith) s
reexported_at (Unsafe x) a acts ps p e s = keeps a acts ps p (λ q r. let z : ◌≡◌ {A = ℕ} 0 1 = cc in omega arith) s
reexported_at (Reexport x) a acts ps p e (inl s) =
    ⊎_elim
    (λ i. inl (i, no_clearing_more a acts (λ q r. let z : ◌≡◌ {A = ℕ} 0 1 = cc in omega arith) s.1))
    (λ q. ⊎_elim (λ r. inr (adds_here a acts p (inl (e ∙ ap Reexport (sym r))) s.1)) (λ r. absurd r) q)
    (in_either p ps (x ∷ []) s.0)
reexported_at (Reexport x) a acts ps p e (inr d) = inr (later_adds a acts p d)
reexported_at (Replace x) a acts ps p e (inl ((inl q), n)) = inr (adds_here a acts p (inr (e ∙ ap Replace (sym q))) n)
reexported_at (Replace x) a acts ps p e (inl ((inr i), n)) = absurd i
reexported_at (Replace x) a acts ps p e (inr d) = inr (later_adds a acts p d)

reexported_said : (acts : List Act) (ps : List Place) (p : Place) → In p (reexported_after ps acts) → StaysOrAdded ps acts p
reexported_said [] ps p i = inl (i, λ b q j e. absurd j)
reexported_said (a ∷ acts) ps p i = reexported_at a.event a acts ps p refl (reexported_said acts (reexported_by a.event ps) p i)

stays_by : (e : Event) (ps : List Place) (p : Place) → ((q : Place) → e ≡ Replace q → ⊥) → In p ps → In p (reexported_by e ps)
stays_by (Bind k v) ps p n i = i
stays_by (Export x) ps p n i = i
stays_by (Unsafe x) ps p n i = i
stays_by (Reexport x) ps p n i = in_left p ps (x ∷ []) i
stays_by (Replace x) ps p n i = absurd (n x refl)

stays_reexported : (acts : List Act) (ps : List Place) (p : Place) → In p ps → NoClearing acts → In p (reexported_after ps acts)
stays_reexported [] ps p i n = i
stays_reexported (a ∷ acts) ps p i n = stays_reexported acts (reexported_by a.event ps) p (stays_by a.event ps p (λ q e. n a q (inl refl) e) i) (λ b q j e. n b q (inr j) e)

added_by : (e : Event) (ps : List Place) (p : Place) → (e ≡ Reexport p) ⊎ (e ≡ Replace p) → In p (reexported_by e ps)
added_by e ps p (inl q) = subst (λ x. In p (reexported_by x ps)) (sym q) (in_right p ps (p ∷ []) (inl refl))
added_by e ps p (inr q) = subst (λ x. In p (reexported_by x ps)) (sym q) (inl refl)

said_reexported : (before : List Act) (a : Act) (after : List Act) (ps : List Place) (p : Place) → (a.event ≡ Reexport p) ⊎ (a.event ≡ Replace p) → NoClearing after → In p (reexported_after ps (before ++ a ∷ after))
said_reexported [] a after ps p e n = stays_reexported after (reexported_by a.event ps) p (added_by a.event ps p e) n
said_reexported (b ∷ before) a after ps p e n = said_reexported before a after (reexported_by b.event ps) p e n

since_clearing : (acts : List Act) (p : Place) → In p (reexported acts) → Adds acts p
since_clearing acts p i = ⊎_elim (λ s. absurd s.0) (λ d. d) (reexported_said acts [] p i)

-- ---- the laws

module _ (T : List ℕ) (acts : List Act) (k : List ℕ) where
  pub unsafe_in : In k (map (loosely T) (marked_unsafe acts)) → MarksUnsafe T acts k
  unsafe_in i = let h = (in_marked (loosely T) k (marked_unsafe acts)).0 i in let s = unsafe_said acts h.0 h.1 in (s.0, h.0, s.1, s.2, h.2)

  pub in_unsafe : MarksUnsafe T acts k → In k (map (loosely T) (marked_unsafe acts))
  in_unsafe m = (in_marked (loosely T) k (marked_unsafe acts)).1 (m.1, said_unsafe acts m.1 m.0 m.2 m.3, m.4)

  pub said_exports : (f : Found) → Finds T acts f → Has (loosely T) k f.exports ↔ (Exports T acts k × (MarksUnsafe T acts k → ⊥))
  said_exports f h =
      let w = has_listed (loosely T) (exported acts) (map (loosely T) (marked_unsafe acts)) f.exports h.exports k in (
        (λ g. let x = w.0 g in let s = exported_said acts x.0.0 x.0.1 in ((s.0, x.0.0, s.1, s.2, x.0.2), λ m. x.1 (in_unsafe m))),
        (λ x. w.1 ((x.0.1, said_exported acts x.0.1 x.0.0 x.0.2 x.0.3, x.0.4), λ i. x.1 (unsafe_in i))),
      )

  pub reexports_in : Has (loosely T) k (reexported acts) → Reexports T acts k
  reexports_in h = (h.0, since_clearing acts h.0 h.1, h.2)

  pub in_reexports : Reexports T acts k → Has (loosely T) k (reexported acts)
  in_reexports r =
      let d = r.1 in
      (r.0, subst (λ l. In r.0 (reexported l)) (sym d.split) (said_reexported d.before d.act d.after [] r.0 d.adds d.last), r.2)

  pub said_reexports : (f : Found) → Finds T acts f → Has (loosely T) k f.reexports ↔ (Reexports T acts k × (MarksUnsafe T acts k → ⊥))
  said_reexports f h =
      let w = has_listed (loosely T) (reexported acts) (map (loosely T) (marked_unsafe acts)) f.reexports h.reexports k in (
        (λ g. let x = w.0 g in (reexports_in x.0, λ m. x.1 (in_unsafe m))),
        (λ x. w.1 (in_reexports x.0, λ u. x.1 (unsafe_in u))),
      )

  pub said_unsafes : (f : Found) → Finds T acts f → Has (loosely T) k f.unsafes ↔ MarksUnsafe T acts k
  said_unsafes f h =
      let w = has_listed (loosely T) (marked_unsafe acts) [] f.unsafes h.unsafes k in
      let m = in_marked (loosely T) k (marked_unsafe acts) in
      ((λ g. unsafe_in (m.1 (w.0 g).0)), (λ x. w.1 (m.0 (in_unsafe x), λ b. b)))
