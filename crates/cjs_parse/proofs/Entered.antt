-- The tables after some acts take in the events at a row as the outcome has it.
use Rattle.std.proofs.Common.{◌≡◌, ℕ, Bool, true, false, cond, List, [], ◌∷◌, ◌++◌, Some, None, Err, Option, sym, refl, ap, ◌∙◌, subst}
use Rattle.std.proofs.lemmas.List.{append-nil, append_assoc}
use Rattle.table.specs.declared.binding.Binding.{Binding}
use Rattle.text.specs.declared.place.Place.{Place}
use Rattle.findings.specs.Tables.{Found, Room}
use Rattle.cjs_law.specs.declared.event.Event.{Event}
use Rattle.cjs_law.specs.declared.event.Event.TheVariants.{Bind, Export, Reexport, Replace, Unsafe}
use Rattle.cjs_law.specs.Findings.{bindings, bound_by, by_name, exported, exported_by, fits, held, loosely, marked_unsafe, outcome_after, reexported, reexported_by, unsafe_by}
use Rattle.cjs_law.specs.Lists.{insert_all}
use Rattle.cjs_law.specs.Walk.{Act, acts_at}
use Rattle.cjs_law.proofs.Acts.{after_last, gathered_last}
use Rattle.cjs_law.proofs.Listed.{all_more, empty_lists, lists_one}
use Rattle.cjs_law.proofs.Puts.{insert_last, put_more}
use Rattle.cjs_parse.specs.State.{apply, goes}

exported_front : (e : Event) (ps qs : List Place) → exported_by e (ps ++ qs) ≡ exported_by e ps ++ qs
exported_front (Bind k v) ps qs = refl
exported_front (Export p) ps qs = refl
exported_front (Unsafe p) ps qs = refl
exported_front (Reexport p) ps qs = refl
exported_front (Replace p) ps qs = refl

unsafe_front : (e : Event) (ps qs : List Place) → unsafe_by e (ps ++ qs) ≡ unsafe_by e ps ++ qs
unsafe_front (Bind k v) ps qs = refl
unsafe_front (Export p) ps qs = refl
unsafe_front (Unsafe p) ps qs = refl
unsafe_front (Reexport p) ps qs = refl
unsafe_front (Replace p) ps qs = refl

module _ (T : List ℕ) (ds : List Act) (j : ℕ) where
  abbrev act : Event → Act
  act e = record { row = j; event = e }

  exports_with : (e : Event) → insert_all (loosely T) (exported (ds ++ act e ∷ [])) [] ≡ insert_all (loosely T) (exported ds ++ exported_by e []) []
  exports_with e = ap (λ l. insert_all (loosely T) l []) (gathered_last exported_by exported_front ds (act e))

  unsafes_with : (e : Event) → insert_all (loosely T) (marked_unsafe (ds ++ act e ∷ [])) [] ≡ insert_all (loosely T) (marked_unsafe ds ++ unsafe_by e []) []
  unsafes_with e = ap (λ l. insert_all (loosely T) l []) (gathered_last unsafe_by unsafe_front ds (act e))

  reexports_with : (e : Event) → insert_all (loosely T) (reexported (ds ++ act e ∷ [])) [] ≡ insert_all (loosely T) (reexported_by e (reexported ds)) []
  reexports_with e = ap (λ l. insert_all (loosely T) l []) (after_last reexported_by [] ds (act e))

  bindings_with : (e : Event) → insert_all (by_name T) (bindings (ds ++ act e ∷ [])) [] ≡ insert_all (by_name T) (bound_by e (bindings ds)) []
  bindings_with e = ap (λ l. insert_all (by_name T) l []) (after_last bound_by [] ds (act e))

  unchanged : (ps : List Place) → insert_all (loosely T) (ps ++ []) [] ≡ insert_all (loosely T) ps []
  unchanged ps = ap (λ l. insert_all (loosely T) l []) (append-nil ps)

  pub apply_held : (e : Event) → held T (ds ++ act e ∷ []) ≡ apply T e (held T ds)
  apply_held (Bind k v) =
      let b : Binding = record { name = k; value = v } in
      let free = all_more (by_name T) [] (bindings ds) [] (empty_lists (by_name T) []) in
      let most = all_more (by_name T) [] (b ∷ bindings ds) [] (empty_lists (by_name T) []) in
      let one = lists_one (by_name T) (b ∷ bindings ds) [] (insert_all (by_name T) (b ∷ bindings ds) []) _ most (put_more (by_name T) (bindings ds) (insert_all (by_name T) (bindings ds) []) b free) in
      λ i. record { bindings = (bindings_with (Bind k v) ∙ one) i; exports = (exports_with (Bind k v) ∙ unchanged (exported ds)) i; reexports = reexports_with (Bind k v) i; unsafes = (unsafes_with (Bind k v) ∙ unchanged (marked_unsafe ds)) i }
  apply_held (Export p) = λ i. record { bindings = bindings_with (Export p) i; exports = (exports_with (Export p) ∙ insert_last (loosely T) (exported ds) p []) i; reexports = reexports_with (Export p) i; unsafes = (unsafes_with (Export p) ∙ unchanged (marked_unsafe ds)) i }
  apply_held (Unsafe p) = λ i. record { bindings = bindings_with (Unsafe p) i; exports = (exports_with (Unsafe p) ∙ unchanged (exported ds)) i; reexports = reexports_with (Unsafe p) i; unsafes = (unsafes_with (Unsafe p) ∙ insert_last (loosely T) (marked_unsafe ds) p []) i }
  apply_held (Reexport p) = λ i. record { bindings = bindings_with (Reexport p) i; exports = (exports_with (Reexport p) ∙ unchanged (exported ds)) i; reexports = (reexports_with (Reexport p) ∙ insert_last (loosely T) (reexported ds) p []) i; unsafes = (unsafes_with (Reexport p) ∙ unchanged (marked_unsafe ds)) i }
  apply_held (Replace p) = λ i. record { bindings = bindings_with (Replace p) i; exports = (exports_with (Replace p) ∙ unchanged (exported ds)) i; reexports = reexports_with (Replace p) i; unsafes = (unsafes_with (Replace p) ∙ unchanged (marked_unsafe ds)) i }

-- the events at row j after the acts ds: the tables then hold those acts too, or the outcome is row j
abbrev pub Told : List ℕ → Room → List Act → ℕ → List Event → List Act → Option Found → Type 0
Told T room ds j es more None = outcome_after T room ds (acts_at j es ++ more) ≡ Err j
Told T room ds j es more (Some f) = (f ≡ held T (ds ++ acts_at j es)) × (outcome_after T room ds (acts_at j es ++ more) ≡ outcome_after T room (ds ++ acts_at j es) more)

module _ (T : List ℕ) (room : Room) (j : ℕ) where
  step : (ds : List Act) (e : Event) (xs : List Act) → fits room (held T (ds ++ act T ds j e ∷ [])) ≡ true → outcome_after T room ds (act T ds j e ∷ xs) ≡ outcome_after T room (ds ++ act T ds j e ∷ []) xs
  step ds e xs h = ap (λ t. cond t (outcome_after T room (ds ++ act T ds j e ∷ []) xs) (Err j)) h

  lift : (ds : List Act) (e : Event) (es : List Event) (more : List Act) (o : Option Found) → fits room (held T (ds ++ act T ds j e ∷ [])) ≡ true → Told T room (ds ++ act T ds j e ∷ []) j es more o → Told T room ds j (e ∷ es) more o
  lift ds e es more None h g = step ds e (acts_at j es ++ more) h ∙ g
  lift ds e es more (Some f) h g = (g.0 ∙ ap (held T) (append_assoc ds (act T ds j e ∷ []) (acts_at j es)), step ds e (acts_at j es ++ more) h ∙ g.1 ∙ ap (λ l. outcome_after T room l more) (append_assoc ds (act T ds j e ∷ []) (acts_at j es)))

  told_by : (ds : List Act) (e : Event) (es : List Event) (more : List Act) (t : Bool) → fits room (held T (ds ++ act T ds j e ∷ [])) ≡ t
      → Told T room (ds ++ act T ds j e ∷ []) j es more (goes T room es (held T (ds ++ act T ds j e ∷ [])))
      → Told T room ds j (e ∷ es) more (cond t (goes T room es (held T (ds ++ act T ds j e ∷ []))) None)
  told_by ds e es more true h g = lift ds e es more (goes T room es (held T (ds ++ act T ds j e ∷ []))) h g
  told_by ds e es more false h g = ap (λ t. cond t (outcome_after T room (ds ++ act T ds j e ∷ []) (acts_at j es ++ more)) (Err j)) h

  pub told : (ds : List Act) (es : List Event) (more : List Act) → Told T room ds j es more (goes T room es (held T ds))
  unfolding goes
  told ds [] more = (ap (held T) (sym (append-nil ds)), ap (λ l. outcome_after T room l more) (sym (append-nil ds)))
  told ds (e ∷ es) more = subst (λ f. Told T room ds j (e ∷ es) more (cond (fits room f) (goes T room es f) None)) (apply_held T ds j e) (told_by ds e es more (fits room (held T (ds ++ act T ds j e ∷ []))) refl (told (ds ++ act T ds j e ∷ []) es more))
