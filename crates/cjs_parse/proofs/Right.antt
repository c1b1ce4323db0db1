-- The right side of an assignment to the exports object.
use Rattle.std.proofs.Common.{◌≡◌, ℕ, Bool, true, false, cond, eqb, List, [], Some, None, Option, sym, refl, ap, ◌∙◌, arith, eqb-true}
use Rattle.kinds.specs.Kinds.{assign, call, object}
use Rattle.tree.specs.declared.row.Row.{Row}
use Rattle.tree.specs.Forest.{Forest, nil, node}
use Rattle.cjs_law.specs.declared.event.Event.{Event}
use Rattle.cjs_law.specs.declared.event.Event.TheVariants.{Replace}
use Rattle.cjs_law.specs.Events.{assign_right, each, once, visit_exports_call, visit_exports_right_expr, visit_prop, visit_value}
use Rattle.cjs_rules.specs.Chain.{◌>>=◌, ◌>>◌}
use Rattle.cjs_rules.specs.Nodes.{Node}
use Rattle.cjs_rules.specs.Rules.{get_call_expr_require_value}

no_object : (r : Row) → eqb r.kind assign ≡ true → eqb r.kind object ≡ false
no_object r e = ap (λ k. eqb k object) (eqb-true r.kind assign e)

no_node : (t : Bool) (n : Node) → Some n ≡ (t >> None) → ⊥
no_node true n e = let z : ◌≡◌ {A = ℕ} 0 1 = cc in omega arith
no_node false n e = let z : ◌≡◌ {A = ℕ} 0 1 = cc in omega arith

same_by : (T : List ℕ) (t : Bool) (n m : Node) → Some n ≡ (t >> Some m) → cond t (visit_exports_right_expr T m.row m.kids) [] ≡ visit_exports_right_expr T n.row n.kids
same_by T true n m e = let q : m ≡ n = cc in ap (λ (x : Node). visit_exports_right_expr T x.row x.kids) q
same_by T false n m e = absurd (let z : ◌≡◌ {A = ℕ} 0 1 = cc in omega arith)

none_by : (T : List ℕ) (t : Bool) (m : Node) → None ≡ (t >> Some m) → cond t (visit_exports_right_expr T m.row m.kids) [] ≡ []
none_by T true m e = absurd (let z : ◌≡◌ {A = ℕ} 0 1 = cc in omega arith)
none_by T false m e = refl

no_value : (b : Bool) → once ((b >> None) >>= (λ v. Some (Replace v))) ≡ []
no_value true = refl
no_value false = refl

module _ (T : List ℕ) (r : Row) where
  not_required : (f : Forest) → get_call_expr_require_value T f ≡ None → eqb r.kind assign ≡ true → visit_value T (record { row = r; kids = f }) ≡ []
  not_required f e a =
      ap (λ b. cond b (each (visit_prop T) f) (once (visit_exports_call T (record { row = r; kids = f })))) (no_object r a)
      ∙ ap (λ q. once ((eqb r.kind call >> q) >>= (λ v. Some (Replace v)))) e
      ∙ no_value (eqb r.kind call)

  -- an assignment hands on to its right side
  pub handed_on : (f : Forest) (n : Node) → eqb r.kind assign ≡ true → Some n ≡ assign_right (record { row = r; kids = f }) → visit_exports_right_expr T r f ≡ visit_exports_right_expr T n.row n.kids
  handed_on nil n a e = absurd (no_node (eqb r.mark 0) n e)
  handed_on (node j x xs nil) n a e = absurd (no_node (eqb r.mark 0) n e)
  handed_on (node j x xs (node i y ys rest)) n a e =
      ap (λ b. cond b (cond (eqb r.mark 0) (visit_exports_right_expr T y ys) []) (visit_value T (record { row = r; kids = node j x xs (node i y ys rest) }))) a
      ∙ same_by T (eqb r.mark 0) n (record { row = y; kids = ys }) e

  -- or to nothing
  pub not_handed_on : (f : Forest) → eqb r.kind assign ≡ true → None ≡ assign_right (record { row = r; kids = f }) → visit_exports_right_expr T r f ≡ []
  not_handed_on nil a e = not_required nil refl a
  not_handed_on (node j x xs nil) a e = not_required (node j x xs nil) refl a
  not_handed_on (node j x xs (node i y ys rest)) a e =
      ap (λ b. cond b (cond (eqb r.mark 0) (visit_exports_right_expr T y ys) []) (visit_value T (record { row = r; kids = node j x xs (node i y ys rest) }))) a
      ∙ none_by T (eqb r.mark 0) (record { row = y; kids = ys }) e

  value_of : (f : Forest) → eqb r.kind assign ≡ false → visit_exports_right_expr T r f ≡ visit_value T (record { row = r; kids = f })
  value_of nil a = refl
  value_of (node j x xs nil) a = refl
  value_of (node j x xs (node i y ys rest)) a =
      ap (λ b. cond b (cond (eqb r.mark 0) (visit_exports_right_expr T y ys) []) (visit_value T (record { row = r; kids = node j x xs (node i y ys rest) }))) a

  -- what is neither an assignment nor an object is taken as a call
  pub call_of : (f : Forest) (o : Option Event) → eqb r.kind assign ≡ false → eqb r.kind object ≡ false → o ≡ visit_exports_call T (record { row = r; kids = f }) → visit_exports_right_expr T r f ≡ once o
  call_of f o a b e =
      value_of f a
      ∙ ap (λ t. cond t (each (visit_prop T) f) (once (visit_exports_call T (record { row = r; kids = f })))) b
      ∙ ap once (sym e)
