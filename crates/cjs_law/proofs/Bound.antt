-- A name is bound by the last act that binds it.
use Rattle.std.proofs.Common.{◌≡◌, ℕ, Bool, true, false, cond, ◌⊎◌, ◌↔◌, List, [], ◌∷◌, ◌++◌, Some, None, Option, sym, refl, ap, ◌∙◌, inl, inr, ⊎_elim, true≢false, arith, ◌≢◌}
use Rattle.std.specs.Str.{bytes_eq}
use Rattle.std.proofs.lemmas.Slice.Eq.{bytes_eq-Decides}
use Rattle.table.specs.declared.binding.Binding.{Binding}
use Rattle.text.specs.declared.place.Place.{Place}
use Rattle.cjs_rules.specs.Nodes.{read}
use Rattle.cjs_law.specs.declared.event.Event.{Event}
use Rattle.cjs_law.specs.declared.event.Event.TheVariants.{Bind, Export, Reexport, Replace, Unsafe}
use Rattle.cjs_law.specs.Findings.{by_name}
use Rattle.cjs_law.specs.Rows.{BoundTo}
use Rattle.cjs_law.specs.Walk.{Act, bound, bound_after, rebound}
use Rattle.cjs_law.proofs.Firsts.{NoneBinds, bind_name, later_bound, none_more}

abbrev value_or : Place → Option Place → Place
value_or p None = p
value_or p (Some q) = q

none_is : (v : Place) → ◌≡◌ {A = Option Place} None (Some v) → ⊥
none_is v e = let z : ◌≡◌ {A = ℕ} 0 1 = cc in omega arith

module _ (T : List ℕ) (name : List ℕ) (v : Place) where
  -- bound before these acts, which do not bind the name, or by the last of them that does
  abbrev BoundSince : Option Place → List Act → Type 0
  BoundSince was acts = ((was ≡ Some v) × NoneBinds T acts name) ⊎ BoundTo T acts name v

  here_by : (k w : Place) (a : Act) (acts : List Act) (was : Option Place) (t : Bool) → a.event ≡ Bind k w → bytes_eq (read T k) name ≡ t → cond t (Some w) was ≡ Some v → NoneBinds T acts name → BoundSince was (a ∷ acts)
  here_by k w a acts was true e s h n =
      let same : read T k ≡ name = (bytes_eq-Decides (read T k) name).0 s in
      inr (record { name = k; value = w }, record { before = []; act = a; after = acts; split = refl; binds = e; last = λ c m q. n c m (q ∙ same) }, same, ap (value_or v) h)
  here_by k w a acts was false e s h n =
      inl (h, none_more T a acts name (λ c m q. true≢false (sym ((bytes_eq-Decides (read T k) name).1 (bind_name T k w c (sym e ∙ m) ∙ q)) ∙ s)) n)

  here_bound : (e : Event) (a : Act) (acts : List Act) (was : Option Place) → a.event ≡ e → rebound T name e was ≡ Some v → NoneBinds T acts name → BoundSince was (a ∷ acts)
  here_bound (Bind k w) a acts was e h n = here_by k w a acts was (bytes_eq (read T k) name) e refl h n
  here_bound (Export x) a acts was e h n = inl (h, none_more T a acts name (λ c m. let z : ◌≡◌ {A = ℕ} 0 1 = cc in omega arith) n)
  here_bound (Unsafe x) a acts was e h n = inl (h, none_more T a acts name (λ c m. let z : ◌≡◌ {A = ℕ} 0 1 = cc in omega arith) n)
  here_bound (Reexport x) a acts was e h n = inl (h, none_more T a acts name (λ c m. let z : ◌≡◌ {A = ℕ} 0 1 = cc in omega arith) n)
  here_bound (Replace x) a acts was e h n = inl (h, none_more T a acts name (λ c m. let z : ◌≡◌ {A = ℕ} 0 1 = cc in omega arith) n)

  at_bound : (a : Act) (acts : List Act) (was : Option Place) → BoundSince (rebound T name a.event was) acts → BoundSince was (a ∷ acts)
  at_bound a acts was (inl s) = here_bound a.event a acts was refl s.0 s.1
  at_bound a acts was (inr d) = inr (d.0, later_bound T a acts d.0 d.1, d.2, d.3)

  bound_since : (acts : List Act) (was : Option Place) → bound_after T was acts name ≡ Some v → BoundSince was acts
  bound_since [] was e = inl (e, λ c h. absurd h.1)
  bound_since (a ∷ acts) was e = at_bound a acts was (bound_since acts (rebound T name a.event was) e)

  stays_by : (k w : Place) (was : Option Place) (t : Bool) → bytes_eq (read T k) name ≡ t → read T k ≢ name → cond t (Some w) was ≡ was
  stays_by k w was true s n = absurd (n ((bytes_eq-Decides (read T k) name).0 s))
  stays_by k w was false s n = refl

  stays_at : (e : Event) (was : Option Place) → ((c : Binding) → e ≡ Bind c.name c.value → by_name T c ≢ name) → rebound T name e was ≡ was
  stays_at (Bind k w) was n = stays_by k w was (bytes_eq (read T k) name) refl (n (record { name = k; value = w }) refl)
  stays_at (Export x) was n = refl
  stays_at (Unsafe x) was n = refl
  stays_at (Reexport x) was n = refl
  stays_at (Replace x) was n = refl

  stays_bound : (acts : List Act) (was : Option Place) → NoneBinds T acts name → bound_after T was acts name ≡ was
  stays_bound [] was n = refl
  stays_bound (a ∷ acts) was n =
      stays_bound acts (rebound T name a.event was) (λ c h. n c (h.0, inr h.1, h.2)) ∙ stays_at a.event was (λ c e. n c (a, inl refl, e))

  bound_last : (before : List Act) (a : Act) (after : List Act) (was : Option Place) (b : Binding) → a.event ≡ Bind b.name b.value → NoneBinds T after name → by_name T b ≡ name → bound_after T was (before ++ a ∷ after) name ≡ Some b.value
  bound_last [] a after was b e n s =
      stays_bound after (rebound T name a.event was) n
      ∙ ap (λ x. rebound T name x was) e
      ∙ ap (λ t. cond t (Some b.value) was) ((bytes_eq-Decides (by_name T b) name).1 s)
  bound_last (d ∷ before) a after was b e n s = bound_last before a after (rebound T name d.event was) b e n s

pub bound_to : (T : List ℕ) (acts : List Act) (name : List ℕ) (v : Place) → (bound T acts name ≡ Some v) ↔ BoundTo T acts name v
bound_to T acts name v = (
  (λ e. ⊎_elim (λ s. absurd (none_is v s.0)) (λ d. d) (bound_since T name v acts None e)),
  (λ (b, d, s, e).
      ap (λ l. bound T l name) d.split
      ∙ bound_last T name v d.before d.act d.after None b d.binds (λ c h q. d.last c h (q ∙ sym s)) s
      ∙ ap Some e),
)
