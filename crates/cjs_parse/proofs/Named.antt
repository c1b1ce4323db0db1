-- What a name is bound to, in the table and by the acts.
use Rattle.std.proofs.Common.{◌≡◌, ℕ, Bool, true, false, cond, ◌⊎◌, List, [], ◌∷◌, Some, sym, refl, ap, ◌∙◌, inl, inr, ⊎_elim, true≢false}
use Rattle.std.proofs.lemmas.Slice.Eq.{bytes_eq-Decides}
use Rattle.std.specs.Str.{bytes_eq}
use Rattle.table.specs.declared.binding.Binding.{Binding}
use Rattle.cjs_law.specs.declared.event.Event.{Event}
use Rattle.cjs_law.specs.declared.event.Event.TheVariants.{Bind, Export, Reexport, Replace, Unsafe}
use Rattle.cjs_law.specs.Findings.{bindings, bindings_after, bound_by, by_name, held}
use Rattle.cjs_law.specs.Lists.{First, In, Lists}
use Rattle.cjs_law.specs.Walk.{Act, bound, bound_after, rebound}
use Rattle.cjs_law.proofs.Listed.{first_in_order, first_in}
use Rattle.cjs_law.proofs.Stands.{held_holds}
use Rattle.cjs_parse.specs.State.{look}
use Rattle.cjs_parse.proofs.Look.{is_same, none_looked, not_same}

module _ (T : List ℕ) (key : List ℕ) where
  event_looked : (e : Event) (bs : List Binding) → look T (bound_by e bs) key ≡ rebound T key e (look T bs key)
  event_looked (Bind k v) bs = refl
  event_looked (Export p) bs = refl
  event_looked (Unsafe p) bs = refl
  event_looked (Reexport p) bs = refl
  event_looked (Replace p) bs = refl

  since_looked : (bs : List Binding) (ds : List Act) → look T (bindings_after bs ds) key ≡ bound_after T (look T bs key) ds key
  since_looked bs [] = refl
  since_looked bs (d ∷ ds) = since_looked (bound_by d.event bs) ds ∙ ap (λ v. bound_after T v ds key) (event_looked d.event bs)

  first_looked : (b : Binding) (xs : List Binding) → First (by_name T) b xs → by_name T b ≡ key → look T xs key ≡ Some b.value
  first_looked b [] f e = absurd f
  first_looked b (y ∷ ys) (inl q) e = ap (λ t. cond t (Some y.value) (look T ys key)) (is_same T key (by_name T y) (ap (by_name T) (sym q) ∙ e)) ∙ ap (λ (z : Binding). Some z.value) (sym q)
  first_looked b (y ∷ ys) (inr f) e = ap (λ t. cond t (Some y.value) (look T ys key)) (not_same T key (by_name T y) (λ q. f.0 (q ∙ sym e))) ∙ first_looked b ys f.1 e

  abbrev Either : List Binding → Type 0
  Either xs = ((b : Binding) × First (by_name T) b xs × (by_name T b ≡ key)) ⊎ ((b : Binding) → In b xs → by_name T b ≡ key → ⊥)

  seek_by : (y : Binding) (ys : List Binding) (t : Bool) → bytes_eq (by_name T y) key ≡ t → Either ys → Either (y ∷ ys)
  seek_by y ys true e o = inl (y, inl refl, (bytes_eq-Decides (by_name T y) key).0 e)
  seek_by y ys false e (inl f) = inl (f.0, inr ((λ q. true≢false (sym (is_same T key (by_name T y) (q ∙ f.2)) ∙ e)), f.1), f.2)
  seek_by y ys false e (inr n) = inr (λ b i q. front b i q)
    where
      front : (b : Binding) → In b (y ∷ ys) → by_name T b ≡ key → ⊥
      front b (inl r) q = true≢false (sym (is_same T key (by_name T y) (ap (by_name T) (sym r) ∙ q)) ∙ e)
      front b (inr i) q = n b i q

  seek : (xs : List Binding) → Either xs
  seek [] = inr (λ b i q. absurd i)
  seek (y ∷ ys) = seek_by y ys (bytes_eq (by_name T y) key) refl (seek ys)

  both_looked : (added xs : List Binding) → Lists (by_name T) added [] xs → look T xs key ≡ look T added key
  both_looked added xs l = ⊎_elim
      (λ f. first_looked f.0 xs (first_in_order (by_name T) f.0 xs l.ascends ((l.exact f.0).1 (f.1, λ b. b))) f.2 ∙ sym (first_looked f.0 added f.1 f.2))
      (λ n. none_looked T key xs (λ b i q. n b (first_in (by_name T) b added ((l.exact b).0 i).0) q) ∙ sym (none_looked T key added n))
      (seek added)

-- a name is bound in the tables as the acts have it
pub bound_held : (T : List ℕ) (ds : List Act) → look T (held T ds).bindings ≡ bound T ds
bound_held T ds = λ i key. (both_looked T key (bindings ds) (held T ds).bindings (held_holds T ds).bindings ∙ since_looked T key [] ds) i
