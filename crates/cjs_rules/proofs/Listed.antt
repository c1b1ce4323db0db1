-- The children of a node as a list, for the library's lemmas on chains of iterators.
use Rattle.std.proofs.Common.{◌≡◌, ℕ, Bool, true, false, List, [], ◌∷◌, length, map, Option, Some, None, refl, sym, ◌∙◌, ap, cond, ◌==◌, ◌||◌}
use Rattle.std.specs.Iterator.{Drains}
use Rattle.std.specs.List.{find, last_or, list_any}
use Rattle.std.specs.Option.{option_map}
use Rattle.std.proofs.lemmas.Iterator.{YieldsList, items_from_drains}
use Rattle.std.proofs.lemmas.Iterator.Consumers.{YieldsList-from_shown}
use Rattle.tree.specs.declared.node.Children.{Children}
use Rattle.tree.specs.declared.node.Node.{Node as TreeNode}
use Rattle.tree.specs.declared.tree.Tree.{Tree}
use Rattle.tree.specs.Children.{Comes, Gives, left}
use Rattle.tree.specs.Forest.{Forest, nil, node}
use Rattle.tree.specs.Subject.{tree_text}
use Rattle.cjs_rules.specs.Chain.{◌>>◌, ◌or_else◌}
use Rattle.cjs_rules.specs.Nodes.{Finds, Node, any_of_kind, final, here}
use Rattle.cjs_rules.specs.Rules.{get_object_define_get_prop, get_prop_name, is_get}

-- each child of a tree t, with its tree
abbrev pub listed : Tree → Forest → List (Node × Tree)
listed t nil = []
listed t (node j r ks rest) = (record { row = r; kids = ks }, t) ∷ listed t rest

abbrev pub viewed : TreeNode → Node × Tree
viewed n = (here n, n.tree.now)

none_left : (t : Tree) (f : Forest) → f ≡ nil → length (listed t f) ≡ 0
none_left t f e = rw e refl

comes : (s : Children) (n : TreeNode) (t : Children) → Comes s n t → listed s.tree.now (left s) ≡ viewed n ∷ listed t.tree.now (left t)
comes s n t c =
    ap (listed s.tree.now) c.first ∙ ap (λ u. (here n, u) ∷ listed s.tree.now (left t)) (sym c.tree) ∙ ap (λ u. viewed n ∷ listed u (left t)) (sym c.same)

-- the children that are still to come, as a chain gives them
pub children_yield : (it : Children) → YieldsList Gives viewed it (listed it.tree.now (left it))
children_yield = YieldsList-from_shown Gives viewed (λ s. listed s.tree.now (left s)) (λ s t e. none_left s.tree.now (left s) e.0) comes

-- a node of a tree t that was found
abbrev pub in_tree : Tree → Option Node → Option (Node × Tree)
in_tree t o = option_map (λ n. (n, t)) o

finds : (m : TreeNode) (r : Option TreeNode) (o : Option Node) → option_map viewed r ≡ in_tree m.tree.now o → Finds m o r
finds m None None e = record { is = refl; tree = tt }
finds m None (Some k) e = cc
finds m (Some n) None e = cc
finds m (Some n) (Some k) e =
    let same : viewed n ≡ (k, m.tree.now) = cc in
    record { is = ap (λ (p : Node × Tree). Some p.0) same; tree = ap (λ (p : Node × Tree). p.1) same }

-- what was found among the children of a node
pub found_under :
    (find : Tree → Forest → Option Node) (m : TreeNode) (it : Children) (f : Forest) (r : Option TreeNode) → it.tree.now ≡ m.tree.now → left it ≡ f →
    option_map viewed r ≡ in_tree it.tree.now (find it.tree.now (left it)) → Finds m (find m.tree.now f) r
found_under find m it f r t e h =
    finds m r (find m.tree.now f) (h ∙ ap (λ u. in_tree u (find u (left it))) t ∙ ap (λ g. in_tree m.tree.now (find m.tree.now g)) e)

-- the last child
last_of_map : {A B : Type 0} (v : A → B) (o : Option A) (xs : List A) → option_map v (last_or o xs) ≡ last_or (option_map v o) (map v xs)
last_of_map v o [] = refl
last_of_map v o (x ∷ xs) = last_of_map v (Some x) xs

last_listed : (t : Tree) (f : Forest) → last_or None (listed t f) ≡ in_tree t (final f)
last_listed t nil = refl
last_listed t (node j r ks nil) = refl
last_listed t (node j r ks (node i s ls rest)) = last_listed t (node i s ls rest)

pub last_child_found :
    (m : TreeNode) (it : Children) (r : Option TreeNode) → it.tree.now ≡ m.tree.now → left it ≡ (here m).kids →
    (xs : List TreeNode) × Drains Gives it xs × (r ≡ last_or None xs) → Finds m (final (here m).kids) r
last_child_found m it r t e ran =
    let xs = ran.0 in
    let d = ran.1 in
    let items : map viewed xs ≡ listed it.tree.now (left it) = items_from_drains xs (d.1.0, d.1.1, λ _. (d.0, d.1.2)) (children_yield it) in
    found_under (λ t f. final f) m it (here m).kids r t e
    (ap (option_map viewed) ran.2 ∙ last_of_map viewed None xs ∙ ap (last_or None) items ∙ last_listed it.tree.now (left it))

-- the first property whose name is `get`
abbrev pub names_get : Node × Tree → Bool
names_get p = is_get (get_prop_name (tree_text p.1) p.0)

pub first_get_listed : (t : Tree) (f : Forest) → find names_get (listed t f) ≡ in_tree t (get_object_define_get_prop (tree_text t) f)
first_get_listed t nil = refl
first_get_listed t (node j r ks rest) =
    let p : Node = record { row = r; kids = ks } in
    elim (names_get (p, t)) as (λ b. cond b (Some (p, t)) (find names_get (listed t rest)) ≡ in_tree t ((b >> Some p) or_else get_object_define_get_prop (tree_text t) rest)) [ true ↦ refl | false ↦ first_get_listed t rest ]

-- whether one is of a kind
pub any_listed : (kind : ℕ) (t : Tree) (f : Forest) → list_any (λ (n : Node × Tree). n.0.row.kind == kind) (listed t f) ≡ any_of_kind kind f
any_listed kind t nil = refl
any_listed kind t (node j r ks rest) = ap (λ b. r.kind == kind || b) (any_listed kind t rest)
