-- What a call of `_interopRequireWildcard` requires.
use Rattle.std.proofs.Common.{◌≡◌, true, false, codes, ap, ◌∙◌, sym}
use Rattle.kinds.specs.Kinds.{call}
use Rattle.tree.specs.declared.node.Node.{Node as TreeNode}
use Rattle.tree.specs.Children.{FirstTwo}
use Rattle.tree.specs.Subject.{tree_text}
use Rattle.cjs_rules.specs.Nodes.{here, is, section}
use Rattle.cjs_rules.specs.Rules.{get_call_expr_require_value}
use Rattle.cjs_rules.specs.Words.{is_ident}

-- the call that is its first argument requires the same
pub by_argument :
    (outer callee arg : TreeNode) → FirstTwo outer callee arg → is_ident (section callee) (codes "require") (here callee) ≡ false → is_ident (section callee) (codes "_interopRequireWildcard") (here callee) ≡ true → is call (here arg) ≡ true →
    get_call_expr_require_value (section arg) (here arg).kids ≡ get_call_expr_require_value (section outer) (here outer).kids
by_argument outer callee arg two plain wrapped calls =
    let other : is_ident (section outer) (codes "require") (here callee) ≡ false = ap (λ S. is_ident S (codes "require") (here callee)) (ap tree_text (sym two.tree)) ∙ plain in
    let wraps : is_ident (section outer) (codes "_interopRequireWildcard") (here callee) ≡ true = ap (λ S. is_ident S (codes "_interopRequireWildcard") (here callee)) (ap tree_text (sym two.tree)) ∙ wrapped in
    rw (two.first, other, wraps, calls) (ap (λ S. get_call_expr_require_value S (here arg).kids) (ap tree_text two.same))
