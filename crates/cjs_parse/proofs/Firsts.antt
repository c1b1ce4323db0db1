-- The rules that take the first child of a row, or the first two, where it has them and where it has fewer.
use Rattle.std.proofs.Common.{◌≡◌, ℕ, ◌<◌, sym, Bool, true, false, List, Some, None, Option, refl, ap, ◌∙◌, arith}
use Rattle.kinds.specs.Kinds.{ident, member, spread}
use Rattle.text.specs.declared.place.Place.{Place}
use Rattle.tree.specs.declared.node.Node.{Node as TreeNode}
use Rattle.tree.specs.declared.row.Row.{Row}
use Rattle.tree.specs.declared.node.Children.{Children}
use Rattle.tree.specs.Children.{Comes, FirstTwo, left, width}
use Rattle.tree.specs.Forest.{Forest, nil, node}
use Rattle.tree.specs.Subject.{tree_text}
use Rattle.cjs_law.specs.declared.event.Event.TheVariants.{Bind, Reexport}
use Rattle.cjs_law.specs.Events.{once, visit_assign_expr, visit_declarator, visit_export_call, visit_exports_right_expr, visit_prop, visit_member_target}
use Rattle.cjs_rules.specs.Chain.{◌>>=◌, ◌>>◌}
use Rattle.cjs_rules.specs.Nodes.{Node, here, is, place, section, text_of}
use Rattle.cjs_rules.specs.Rules.{get_export_require_arg, get_expr_require_value, get_member_require_value, is_export_callee, is_module_exports_or_exports}
use Rattle.cjs_parse.specs.Bound.{of_two}

cut : {A : Type 0} (b : Bool) → ◌≡◌ {A = Option A} (b >> None) None
cut true = refl
cut false = refl

lost : {A B : Type 0} (o : Option A) → ◌≡◌ {A = Option B} (o >>= (λ a. None)) None
lost None = refl
lost (Some a) = refl

-- fewer than two children
module _ (T : List ℕ) (r : Row) where
  pub few_require : (bound : List ℕ → Option Place) (key : List ℕ) (f : Forest) → width f < 2 → get_member_require_value T bound key (record { row = r; kids = f }) ≡ None
  few_require bound key nil h = cut (is member (record { row = r; kids = nil }))
  few_require bound key (node j x ks nil) h =
      let o : Node = record { row = x; kids = ks } in
      let m : Node = record { row = r; kids = node j x ks nil } in
      ap (λ q. is member m >> (is ident o >> q)) (lost {B = Place} (bound (text_of T o))) ∙ ap (λ q. is member m >> q) (cut (is ident o)) ∙ cut (is member m)
  few_require bound key (node j x ks (node i y ls rest)) h = absurd (omega arith)

  pub few_reach_member : (bound : List ℕ → Option Place) (right : Node) (f : Forest) → width f < 2 → visit_member_target T bound (record { row = r; kids = f }) right ≡ None
  few_reach_member bound right nil h = cut (is member (record { row = r; kids = nil }))
  few_reach_member bound right (node j x ks nil) h =
      let o : Node = record { row = x; kids = ks } in
      let m : Node = record { row = r; kids = node j x ks nil } in
      ap (λ q. is member m >> q) (cut (is_module_exports_or_exports T o)) ∙ cut (is member m)
  few_reach_member bound right (node j x ks (node i y ls rest)) h = absurd (omega arith)

-- a Declarator of an Ident binds what its second child requires
pub declared :
    (d id init : TreeNode) → FirstTwo d id init → is ident (here id) ≡ true → (v : Option Place) → v ≡ get_expr_require_value (section init) (here init) →
    (v >>= (λ p. Some (Bind (place (here id)) p))) ≡ visit_declarator (section d) (here d)
declared d id init two name v e =
    rw (two.first, name) (ap (λ o. o >>= (λ p. Some (Bind (place (here id)) p))) (e ∙ ap (λ S. get_expr_require_value S (here init)) (ap tree_text two.same)))

-- a Spread re-exports what its child requires
pub spread_out :
    (p x : TreeNode) (it rest : Children) → it.tree.now ≡ p.tree.now → left it ≡ (here p).kids → Comes it x rest → is spread (here p) ≡ true →
    (v : Option Place) → v ≡ get_expr_require_value (section x) (here x) → (v >>= (λ q. Some (Reexport q))) ≡ visit_prop (section p) (here p)
spread_out p x it rest t k c s v e =
    rw (s, sym k ∙ c.first) (ap (λ o. o >>= (λ q. Some (Reexport q))) (e ∙ ap (λ S. get_expr_require_value S (here x)) (ap tree_text (c.tree ∙ t))))

-- a call of a helper that copies exports re-exports what its arguments require
pub copied :
    (call callee : TreeNode) (it args : Children) (bound : List ℕ → Option Place) → it.tree.now ≡ call.tree.now → left it ≡ (here call).kids → Comes it callee args →
    is_export_callee (section callee) (here callee) ≡ true → (v : Option Place) → v ≡ get_export_require_arg (tree_text args.tree.now) bound (left args) →
    (v >>= (λ q. Some (Reexport q))) ≡ visit_export_call (section call) bound (here call).kids
copied call callee it args bound t k c copies v e =
    let is : is_export_callee (section call) (here callee) ≡ true = ap (λ S. is_export_callee S (here callee)) (ap tree_text (sym (c.tree ∙ t))) ∙ copies in
    rw (sym k ∙ c.first, is) (ap (λ o. o >>= (λ q. Some (Reexport q))) (e ∙ ap (λ S. get_export_require_arg S bound (left args)) (ap tree_text (c.same ∙ t))))

-- an assignment of mark 0 to an exports object, to what may be a property of one, and to nothing
module _ (a target right : TreeNode) (bound : List ℕ → Option Place) (two : FirstTwo a target right) where
  pub to_exports : is_module_exports_or_exports (section target) (here target) ≡ true → visit_exports_right_expr (section right) (here right).row (here right).kids ≡ visit_assign_expr (section a) bound (here a).kids
  to_exports e =
      let whole : is_module_exports_or_exports (section a) (here target) ≡ true = ap (λ S. is_module_exports_or_exports S (here target)) (ap tree_text (sym two.tree)) ∙ e in
      rw (two.first, whole) (ap (λ S. visit_exports_right_expr S (here right).row (here right).kids) (ap tree_text two.same))

  pub to_member : is_module_exports_or_exports (section target) (here target) ≡ false → once (of_two 0 (visit_member_target (section a) bound) (here a).kids) ≡ visit_assign_expr (section a) bound (here a).kids
  to_member e =
      let part : is_module_exports_or_exports (section a) (here target) ≡ false = ap (λ S. is_module_exports_or_exports S (here target)) (ap tree_text (sym two.tree)) ∙ e in
      rw (two.first, part) refl

pub few_assign : (T : List ℕ) (bound : List ℕ → Option Place) (f : Forest) → width f < 2 → once (of_two 0 (visit_member_target T bound) f) ≡ visit_assign_expr T bound f
few_assign T bound nil h = refl
few_assign T bound (node j x ks nil) h = refl
few_assign T bound (node j x ks (node i y ls rest)) h = absurd (omega arith)
