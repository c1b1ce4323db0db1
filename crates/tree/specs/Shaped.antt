-- Rows that fit the table of kinds.
use Rattle.std.specs.Prelude.{◌≡◌, ℕ, ◌+◌, ◌<◌, Bool, true, false, cond, not, ◌&&◌, List, [], ◌∷◌, length, Some, None, Decides, Option, ◌==◌, nat_le, nat_lt, slice_index}
use Rattle.std.specs.Option.{unwrap_or}
use Rattle.kinds.specs.declared.shape.Group.{Group}
use Rattle.kinds.specs.Kinds.{program}
use Rattle.kinds.specs.Shape.{has, highest_mark, fewest, most, first_child, later_child, last_child}
use Rattle.tree.specs.declared.row.Row.{Row}
use Rattle.tree.specs.Forest.{Forest, nil, node, row_at, children}

-- the kinds of the rows at the top of a tree
abbrev pub kinds_of : Forest → List ℕ
kinds_of nil = []
kinds_of (node j r children siblings) = r.kind ∷ kinds_of siblings

abbrev pub none_left : List ℕ → Bool
none_left [] = true
none_left (k ∷ ks) = false

-- the group of a child: a last one has that of last children, where its parent's kind has one
abbrev pub group_for : Option Group → Group → Bool → Group
group_for last group is_last = cond is_last (unwrap_or last group) group

-- each child belongs to its group, the first of them to this one
abbrev pub each_fits : Row → Group → List ℕ → Bool
each_fits r group [] = true
each_fits r group (k ∷ ks) = has (group_for (last_child r.kind) group (none_left ks)) k && each_fits r (later_child r.kind r.mark) ks

abbrev pub at_most : Option ℕ → ℕ → Bool
at_most None n = true
at_most (Some m) n = nat_le n m

-- a kind may have so many children
abbrev pub may_have : ℕ → ℕ → Bool
may_have kind n = nat_le (fewest kind) n && at_most (most kind) n

-- these children fit a row
abbrev pub children_fit : Row → List ℕ → Bool
children_fit r ks = each_fits r (first_child r.kind r.mark) ks && may_have r.kind (length ks)

-- row 0 is a Program, and no other row is
abbrev pub root_is_program : ℕ → ℕ → Bool
root_is_program j kind = cond (j == 0) (kind == program) (not (kind == program))

-- the kind is in the table, and so are the mark and the children for it
abbrev pub is_shaped : List Row → ℕ → Bool
is_shaped rs j =
    nat_lt (row_at rs j).kind 50
    && root_is_program j (row_at rs j).kind
    && nat_le (row_at rs j).mark (highest_mark (row_at rs j).kind)
    && children_fit (row_at rs j) (kinds_of (children rs j))

abbrev pub LawfulShape : List Row → ℕ → Type 0
LawfulShape rs j = is_shaped rs j ≡ true

-- the group of the child at place p of n
abbrev pub group_at : Row → ℕ → ℕ → Group
group_at r p n = group_for (last_child r.kind) (cond (p == 0) (first_child r.kind r.mark) (later_child r.kind r.mark)) (p + 1 == n)

-- children fit exactly where a row may have so many, and the child at each place belongs to the group of that place
abbrev pub ChildrenFitByPlace : Type 0
ChildrenFitByPlace =
    (r : Row) (ks : List ℕ) →
    Decides (children_fit r ks) ((may_have r.kind (length ks) ≡ true) × ((p : ℕ) → p < length ks → has (group_at r p (length ks)) (slice_index ks p) ≡ true))
