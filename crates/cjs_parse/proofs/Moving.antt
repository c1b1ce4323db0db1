-- Events during the walk, in other words for them.
use Rattle.std.proofs.Common.{◌≡◌, true, false, List, is_ok, Ok, Err, Result, sym, ap, ◌∙◌, subst, true≢false}
use Rattle.std.specs.Result.{IsErrAnd, MatchResult}
use Rattle.table.specs.declared.table.Full.{Full}
use Rattle.cjs_law.specs.declared.event.Event.{Event}
use Rattle.cjs_parse.specs.Moving.{MovesOn}
use Rattle.cjs_parse.specs.State.{Moved, Stuck}
use Rattle.cjs_parse.specs.declared.walk.Walk.{Walk}

-- the same tables took the events in, or have no room for one of them
abbrev pub Took : Walk → List Event → Walk → Type 0
Took v es w = (w.text.now ≡ v.text.now) × (w.tables.ghost_name ≡ v.tables.ghost_name) × Moved v.text.now v.tables.now es w.tables.now

abbrev pub Halted : Walk → List Event → Walk → Type 0
Halted v es w = (w.text.now ≡ v.text.now) × (w.tables.ghost_name ≡ v.tables.ghost_name) × Stuck v.text.now v.tables.now es w.tables.now

pub moves_as : (v w : Walk) (r : Result (Unit {0}) Full) (es fs : List Event) → es ≡ fs → MovesOn v es r w → MovesOn v fs r w
moves_as v w r es fs e m = subst (λ l. MovesOn v l r w) e m

module _ (v w : Walk) (es : List Event) where
  -- what took the events in has no refusal
  pub went_on : (r : Result (Unit {0}) Full) → is_ok r ≡ true → MovesOn v es r w → Took v es w
  went_on (Ok x) e m = m
  went_on (Err x) e m = absurd (true≢false (sym e))

  -- and what has one is stuck
  pub stopped : (r : Result (Unit {0}) Full) → is_ok r ≡ false → MovesOn v es r w → Halted v es w
  stopped (Ok x) e m = absurd (true≢false e)
  stopped (Err x) e m = m

-- what a refusal was made into
pub made_into : {A E D : Type 0} (r : Result A E) (s : Result A D) (d x : D) (P : E → D → Type 0) → MatchResult r (λ y. s ≡ Ok y) (λ e. IsErrAnd s (P e)) → ((e : E) (k : D) → P e k → k ≡ x) → s ≡ Err d → d ≡ x
made_into (Ok y) s d x P m h w = absurd (true≢false (ap is_ok (sym m ∙ w)))
made_into (Err e) s d x P m h w = h e d (subst (λ q. IsErrAnd q (P e)) w m)
