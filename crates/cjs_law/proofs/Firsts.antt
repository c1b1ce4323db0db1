-- The rows that are kept: of a text the place of the first act that adds it, and of a name the last binding.
use Rattle.std.proofs.Common.{◌≡◌, ℕ, ◌⊎◌, ◌↔◌, List, [], ◌∷◌, ◌++◌, map, sym, refl, ap, ◌∙◌, subst, inl, inr, ⊎_elim, arith, ◌≢◌}
use Rattle.table.specs.declared.binding.Binding.{Binding}
use Rattle.text.specs.declared.place.Place.{Place}
use Rattle.findings.specs.Tables.{Found}
use Rattle.cjs_law.specs.declared.event.Event.{Event}
use Rattle.cjs_law.specs.declared.event.Event.TheVariants.{Bind, Export, Reexport, Replace, Unsafe}
use Rattle.cjs_law.specs.Findings.{Finds, bindings, bindings_after, bound_by, by_name, exported, exported_by, gathered, loosely, marked_unsafe, reexported, reexported_after, reexported_by, unsafe_by}
use Rattle.cjs_law.specs.Laws.{Adds, AddsFirst, Binds, BindsLast, MarksUnsafe, Says, SaysFirst}
use Rattle.cjs_law.specs.Lists.{First, Has, In, Lists}
use Rattle.cjs_law.specs.Walk.{Act}
use Rattle.cjs_law.proofs.Listed.{first_append, first_comes, first_stays}
use Rattle.cjs_law.proofs.Said.{NoClearing, adds_here, in_reexports, in_unsafe, later_adds, no_clearing_more, reexports_in, unsafe_in}

-- ---- texts that are said

-- an event says one place of this sort, which goes before the others, or none
abbrev SaysOne : (Place → Event) → (Event → List Place → List Place) → Event → Type 0
SaysOne sort by e = ((p : Place) × (e ≡ sort p) × ((ps : List Place) → by e ps ≡ p ∷ ps)) ⊎ (((p : Place) → e ≡ sort p → ⊥) × ((ps : List Place) → by e ps ≡ ps))

module _ (T : List ℕ) (sort : Place → Event) (by : Event → List Place → List Place) (own : (p q : Place) → sort p ≡ sort q → p ≡ q) (says : (e : Event) → SaysOne sort by e) where
  later_first : (a : Act) (acts : List Act) (p : Place) → ((q : Place) → a.event ≡ sort q → loosely T q ≢ loosely T p) → SaysFirst sort T acts p → SaysFirst sort T (a ∷ acts) p
  later_first a acts p n s = record {
    before = a ∷ s.before;
    act = s.act;
    after = s.after;
    split = ap (λ l. a ∷ l) s.split;
    says = s.says;
    first = λ h. ⊎_elim (λ e. n h.1 (ap (λ z. z.event) (sym e) ∙ h.3) h.4) (λ i. s.first (h.0, h.1, i, h.3, h.4)) h.2;
  }

  first_at : (a : Act) (acts : List Act) (p : Place) → SaysOne sort by a.event → (First (loosely T) p (gathered by acts) → SaysFirst sort T acts p) → First (loosely T) p (by a.event (gathered by acts)) → SaysFirst sort T (a ∷ acts) p
  first_at a acts p (inl (q, e, front)) on f =
      ⊎_elim
      (λ r. record { before = []; act = a; after = acts; split = refl; says = e ∙ ap sort (sym r); first = λ h. absurd h.2 })
      (λ r. later_first a acts p (λ x h k. r.0 (ap (loosely T) (own q x (sym e ∙ h)) ∙ k)) (on r.1))
      (subst (First (loosely T) p) (front (gathered by acts)) f)
  first_at a acts p (inr (n, same)) on f = later_first a acts p (λ x h k. n x h) (on (subst (First (loosely T) p) (same (gathered by acts)) f))

  first_said : (acts : List Act) (p : Place) → First (loosely T) p (gathered by acts) → SaysFirst sort T acts p
  first_said [] p f = absurd f
  first_said (a ∷ acts) p f = first_at a acts p (says a.event) (first_said acts p) f

  head_first : (a : Act) (acts : List Act) (p : Place) → SaysOne sort by a.event → a.event ≡ sort p → First (loosely T) p (by a.event (gathered by acts))
  head_first a acts p (inl (q, e, front)) h = subst (First (loosely T) p) (sym (front (gathered by acts))) (inl (own p q (sym h ∙ e)))
  head_first a acts p (inr (n, same)) h = absurd (n p h)

  behind_first : (b : Act) (acts : List Act) (p : Place) → SaysOne sort by b.event → ((q : Place) → b.event ≡ sort q → loosely T q ≢ loosely T p) → First (loosely T) p (gathered by acts) → First (loosely T) p (by b.event (gathered by acts))
  behind_first b acts p (inl (q, e, front)) n f = subst (First (loosely T) p) (sym (front (gathered by acts))) (inr (n q e, f))
  behind_first b acts p (inr (m, same)) n f = subst (First (loosely T) p) (sym (same (gathered by acts))) f

  said_first : (before : List Act) (a : Act) (after : List Act) (p : Place) → a.event ≡ sort p → (Says sort T before (loosely T p) → ⊥) → First (loosely T) p (gathered by (before ++ a ∷ after))
  said_first [] a after p e n = head_first a after p (says a.event) e
  said_first (b ∷ before) a after p e n = behind_first b (before ++ a ∷ after) p (says b.event) (λ q h k. n (b, q, inl refl, h, k)) (said_first before a after p e (λ h. n (h.0, h.1, inr h.2, h.3, h.4)))

  pub says_first : (acts : List Act) (p : Place) → First (loosely T) p (gathered by acts) ↔ SaysFirst sort T acts p
  says_first acts p = (first_said acts p, λ s. subst (λ l. First (loosely T) p (gathered by l)) (sym s.split) (said_first s.before s.act s.after p s.says s.first))

-- the place that an event puts on a list
abbrev listed : Event → Place
listed (Bind k v) = k
listed (Export p) = p
listed (Unsafe p) = p
listed (Reexport p) = p
listed (Replace p) = p

export_said : (e : Event) → SaysOne Export exported_by e
export_said (Bind k v) = inr ((λ p h. let z : ◌≡◌ {A = ℕ} 0 1 = cc in omega arith), λ ps. refl)
export_said (Export p) = inl (p, refl, λ ps. refl)
export_said (Unsafe q) = inr ((λ p h. let z : ◌≡◌ {A = ℕ} 0 1 = cc in omega arith), λ ps. refl)
export_said (Reexport q) = inr ((λ p h. let z : ◌≡◌ {A = ℕ} 0 1 = cc in omega arith), λ ps. refl)
export_said (Replace q) = inr ((λ p h. let z : ◌≡◌ {A = ℕ} 0 1 = cc in omega arith), λ ps. refl)

mark_said : (e : Event) → SaysOne Unsafe unsafe_by e
mark_said (Bind k v) = inr ((λ p h. let z : ◌≡◌ {A = ℕ} 0 1 = cc in omega arith), λ ps. refl)
mark_said (Export q) = inr ((λ p h. let z : ◌≡◌ {A = ℕ} 0 1 = cc in omega arith), λ ps. refl)
mark_said (Unsafe p) = inl (p, refl, λ ps. refl)
mark_said (Reexport q) = inr ((λ p h. let z : ◌≡◌ {A = ℕ} 0 1 = cc in omega arith), λ ps. refl)
mark_said (Replace q) = inr ((λ p h. let z : ◌≡◌ {A = ℕ} 0 1 = cc in omega arith), λ ps. refl)

-- ---- re-exports

module _ (T : List ℕ) where
  -- the first of its reading before these acts, which clear nothing, or the first that they add
  abbrev FirstSince : List Place → List Act → Place → Type 0
  FirstSince ps acts p = (First (loosely T) p ps × NoClearing acts) ⊎ ((a : Adds acts p) × (a.act.event ≡ Reexport p → Has (loosely T) (loosely T p) (reexported_after ps a.before) → ⊥))

  here_since : (e : Event) (a : Act) (acts : List Act) (ps : List Place) (p : Place) → a.event ≡ e → First (loosely T) p (reexported_by e ps) → NoClearing acts → FirstSince ps (a ∷ acts) p
  here_since (Bind k v) a acts ps p e f n = inl (f, no_clearing_more a acts (λ q r. let z : ◌≡◌ {A = ℕ} 0 1 = cc in omega arith) n)
  here_since (Export x) a acts ps p e f n = inl (f, no_clearing_more a acts (λ q r. let z : ◌≡◌ {A = ℕ} 0 1 = cc in omega arith) n)
  here_since (Unsafe x) a acts ps p e f n = inl (f, no_clearing_more a acts (λ q r. let z : ◌≡◌ {A = ℕ} 0 1 = cc in omega arith) n)
  here_since (Reexport x) a acts ps p e f n =
      ⊎_elim
      (λ g. inl (g, no_clearing_more a acts (λ q r. let z : ◌≡◌ {A = ℕ} 0 1 = cc in omega arith) n))
      (λ g. inr (adds_here a acts p (inl (e ∙ ap Reexport (sym g.0))) n, λ r h. g.1 (subst (λ z. Has (loosely T) (loosely T z) ps) g.0 h)))
      (first_append (loosely T) p x ps f)
  here_since (Replace x) a acts ps p e (inl q) n = inr (adds_here a acts p (inr (e ∙ ap Replace (sym q))) n, λ r h. let z : ◌≡◌ {A = ℕ} 0 1 = cc in omega arith)
  here_since (Replace x) a acts ps p e (inr g) n = absurd g.1

  at_since : (a : Act) (acts : List Act) (ps : List Place) (p : Place) → FirstSince (reexported_by a.event ps) acts p → FirstSince ps (a ∷ acts) p
  at_since a acts ps p (inl s) = here_since a.event a acts ps p refl s.0 s.1
  at_since a acts ps p (inr d) = inr (later_adds a acts p d.0, d.1)

  first_since : (acts : List Act) (ps : List Place) (p : Place) → First (loosely T) p (reexported_after ps acts) → FirstSince ps acts p
  first_since [] ps p f = inl (f, λ b q i e. absurd i)
  first_since (a ∷ acts) ps p f = at_since a acts ps p (first_since acts (reexported_by a.event ps) p f)

  stays_by : (e : Event) (ps : List Place) (p : Place) → ((q : Place) → e ≡ Replace q → ⊥) → First (loosely T) p ps → First (loosely T) p (reexported_by e ps)
  stays_by (Bind k v) ps p n f = f
  stays_by (Export x) ps p n f = f
  stays_by (Unsafe x) ps p n f = f
  stays_by (Reexport x) ps p n f = first_stays (loosely T) p x ps f
  stays_by (Replace x) ps p n f = absurd (n x refl)

  stays_since : (acts : List Act) (ps : List Place) (p : Place) → First (loosely T) p ps → NoClearing acts → First (loosely T) p (reexported_after ps acts)
  stays_since [] ps p f n = f
  stays_since (a ∷ acts) ps p f n = stays_since acts (reexported_by a.event ps) p (stays_by a.event ps p (λ q e. n a q (inl refl) e) f) (λ b q i e. n b q (inr i) e)

  comes_by : (e : Event) (ps : List Place) (p : Place) → (e ≡ Reexport p) ⊎ (e ≡ Replace p) → (e ≡ Reexport p → Has (loosely T) (loosely T p) ps → ⊥) → First (loosely T) p (reexported_by e ps)
  comes_by e ps p (inl q) n = subst (λ x. First (loosely T) p (reexported_by x ps)) (sym q) (first_comes (loosely T) p ps (n q))
  comes_by e ps p (inr q) n = subst (λ x. First (loosely T) p (reexported_by x ps)) (sym q) (inl refl)

  since_first : (before : List Act) (a : Act) (after : List Act) (ps : List Place) (p : Place) → (a.event ≡ Reexport p) ⊎ (a.event ≡ Replace p) → (a.event ≡ Reexport p → Has (loosely T) (loosely T p) (reexported_after ps before) → ⊥) → NoClearing after → First (loosely T) p (reexported_after ps (before ++ a ∷ after))
  since_first [] a after ps p e n c = stays_since after (reexported_by a.event ps) p (comes_by a.event ps p e n) c
  since_first (b ∷ before) a after ps p e n c = since_first before a after (reexported_by b.event ps) p e n c

  adds_first : (acts : List Act) (p : Place) → First (loosely T) p (reexported acts) ↔ AddsFirst T acts p
  adds_first acts p = (
    (λ f. ⊎_elim (λ s. absurd s.0) (λ d. (d.0, λ e r. d.1 e (in_reexports T d.0.before (loosely T p) r))) (first_since acts [] p f)),
    (λ d.
        let a = d.0 in
        subst (λ l. First (loosely T) p (reexported l)) (sym a.split) (since_first a.before a.act a.after [] p a.adds (λ e h. d.1 e (reexports_in T a.before (loosely T p) h)) a.last)),
  )

-- ---- bindings

module _ (T : List ℕ) where
  -- none of these acts binds the name
  abbrev pub NoneBinds : List Act → List ℕ → Type 0
  NoneBinds acts name = (c : Binding) → Binds acts c → by_name T c ≢ name

  pub none_more : (a : Act) (acts : List Act) (name : List ℕ) → ((c : Binding) → a.event ≡ Bind c.name c.value → by_name T c ≢ name) → NoneBinds acts name → NoneBinds (a ∷ acts) name
  none_more a acts name f n c (x, (inl q), e) = f c (ap (λ z. z.event) (sym q) ∙ e)
  none_more a acts name f n c (x, (inr i), e) = n c (x, i, e)

  -- the first of its name before these acts, which do not bind it, or the last that they bind
  abbrev LastSince : List Binding → List Act → Binding → Type 0
  LastSince bs acts b = (First (by_name T) b bs × NoneBinds acts (by_name T b)) ⊎ BindsLast T acts b

  pub bind_name : (k v : Place) (c : Binding) → Bind k v ≡ Bind c.name c.value → by_name T (record { name = k; value = v }) ≡ by_name T c
  bind_name k v c e = ap (λ z. by_name T (record { name = listed z; value = v })) e

  here_bound : (e : Event) (a : Act) (acts : List Act) (bs : List Binding) (b : Binding) → a.event ≡ e → First (by_name T) b (bound_by e bs) → NoneBinds acts (by_name T b) → LastSince bs (a ∷ acts) b
  here_bound (Bind k v) a acts bs b e (inl q) n =
      inr (record { before = []; act = a; after = acts; split = refl; binds = e ∙ ap (λ (z : Binding). Bind z.name z.value) (sym q); last = n })
  here_bound (Bind k v) a acts bs b e (inr f) n = inl (f.1, none_more a acts (by_name T b) (λ c h s. f.0 (bind_name k v c (sym e ∙ h) ∙ s)) n)
  here_bound (Export x) a acts bs b e f n = inl (f, none_more a acts (by_name T b) (λ c h. let z : ◌≡◌ {A = ℕ} 0 1 = cc in omega arith) n)
  here_bound (Unsafe x) a acts bs b e f n = inl (f, none_more a acts (by_name T b) (λ c h. let z : ◌≡◌ {A = ℕ} 0 1 = cc in omega arith) n)
  here_bound (Reexport x) a acts bs b e f n = inl (f, none_more a acts (by_name T b) (λ c h. let z : ◌≡◌ {A = ℕ} 0 1 = cc in omega arith) n)
  here_bound (Replace x) a acts bs b e f n = inl (f, none_more a acts (by_name T b) (λ c h. let z : ◌≡◌ {A = ℕ} 0 1 = cc in omega arith) n)

  abbrev pub later_bound : (a : Act) (acts : List Act) (b : Binding) → BindsLast T acts b → BindsLast T (a ∷ acts) b
  later_bound a acts b d = record { before = a ∷ d.before; act = d.act; after = d.after; split = ap (λ l. a ∷ l) d.split; binds = d.binds; last = d.last }

  at_bound : (a : Act) (acts : List Act) (bs : List Binding) (b : Binding) → LastSince (bound_by a.event bs) acts b → LastSince bs (a ∷ acts) b
  at_bound a acts bs b (inl s) = here_bound a.event a acts bs b refl s.0 s.1
  at_bound a acts bs b (inr d) = inr (later_bound a acts b d)

  last_since : (acts : List Act) (bs : List Binding) (b : Binding) → First (by_name T) b (bindings_after bs acts) → LastSince bs acts b
  last_since [] bs b f = inl (f, λ c h. absurd h.1)
  last_since (a ∷ acts) bs b f = at_bound a acts bs b (last_since acts (bound_by a.event bs) b f)

  stays_bound_by : (e : Event) (bs : List Binding) (b : Binding) → ((c : Binding) → e ≡ Bind c.name c.value → by_name T c ≢ by_name T b) → First (by_name T) b bs → First (by_name T) b (bound_by e bs)
  stays_bound_by (Bind k v) bs b n f = inr (n (record { name = k; value = v }) refl, f)
  stays_bound_by (Export x) bs b n f = f
  stays_bound_by (Unsafe x) bs b n f = f
  stays_bound_by (Reexport x) bs b n f = f
  stays_bound_by (Replace x) bs b n f = f

  stays_bound : (acts : List Act) (bs : List Binding) (b : Binding) → First (by_name T) b bs → NoneBinds acts (by_name T b) → First (by_name T) b (bindings_after bs acts)
  stays_bound [] bs b f n = f
  stays_bound (a ∷ acts) bs b f n = stays_bound acts (bound_by a.event bs) b (stays_bound_by a.event bs b (λ c e. n c (a, inl refl, e)) f) (λ c h. n c (h.0, inr h.1, h.2))

  last_first : (before : List Act) (a : Act) (after : List Act) (bs : List Binding) (b : Binding) → a.event ≡ Bind b.name b.value → NoneBinds after (by_name T b) → First (by_name T) b (bindings_after bs (before ++ a ∷ after))
  last_first [] a after bs b e n = stays_bound after (bound_by a.event bs) b (subst (λ x. First (by_name T) b (bound_by x bs)) (sym e) (inl refl)) n
  last_first (d ∷ before) a after bs b e n = last_first before a after (bound_by d.event bs) b e n

  binds_last : (acts : List Act) (b : Binding) → First (by_name T) b (bindings acts) ↔ BindsLast T acts b
  binds_last acts b = (
    (λ f. ⊎_elim (λ s. absurd s.0) (λ d. d) (last_since acts [] b f)),
    (λ d. subst (λ l. First (by_name T) b (bindings l)) (sym d.split) (last_first d.before d.act d.after [] b d.binds d.last)),
  )

-- ---- the lists

-- in a list of the first rows of their keys stand those that some words tell
told : {X : Type 0} (key : X → List ℕ) (added : List X) (barred : List (List ℕ)) (xs : List X) (x : X) (Told Barred : Type 0) → Lists key added barred xs → First key x added ↔ Told → In (key x) barred ↔ Barred → In x xs ↔ (Told × (Barred → ⊥))
told key added barred xs x Told Barred l f b = (
  (λ i. let e = (l.exact x).0 i in (f.0 e.0, λ u. e.1 (b.1 u))),
  (λ t. (l.exact x).1 (f.1 t.0, λ u. t.1 (b.0 u))),
)

module _ (T : List ℕ) (acts : List Act) (f : Found) (h : Finds T acts f) where
  pub first_exports : (p : Place) → In p f.exports ↔ (SaysFirst Export T acts p × (MarksUnsafe T acts (loosely T p) → ⊥))
  first_exports p =
      told (loosely T) (exported acts) (map (loosely T) (marked_unsafe acts)) f.exports p (SaysFirst Export T acts p) (MarksUnsafe T acts (loosely T p)) h.exports
      (says_first T Export exported_by (λ a b e. ap listed e) export_said acts p)
      (unsafe_in T acts (loosely T p), in_unsafe T acts (loosely T p))

  pub first_reexports : (p : Place) → In p f.reexports ↔ (AddsFirst T acts p × (MarksUnsafe T acts (loosely T p) → ⊥))
  first_reexports p =
      told (loosely T) (reexported acts) (map (loosely T) (marked_unsafe acts)) f.reexports p (AddsFirst T acts p) (MarksUnsafe T acts (loosely T p)) h.reexports
      (adds_first T acts p)
      (unsafe_in T acts (loosely T p), in_unsafe T acts (loosely T p))

  pub first_unsafes : (p : Place) → In p f.unsafes ↔ SaysFirst Unsafe T acts p
  first_unsafes p =
      let s = says_first T Unsafe unsafe_by (λ a b e. ap listed e) mark_said acts p in
      ((λ i. s.0 ((h.unsafes.exact p).0 i).0), (λ w. (h.unsafes.exact p).1 (s.1 w, λ b. b)))

  pub last_bindings : (b : Binding) → In b f.bindings ↔ BindsLast T acts b
  last_bindings b =
      let s = binds_last T acts b in
      ((λ i. s.0 ((h.bindings.exact b).0 i).0), (λ w. (h.bindings.exact b).1 (s.1 w, λ b. b)))
