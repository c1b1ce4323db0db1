-- The tree of the rows from j up to n is that up to m, and then that from m on.
use Rattle.std.proofs.Common.{◌≡◌, ℕ, zero, suc, ◌+◌, ◌<◌, ◌≤◌, List, length, ap, ⊎_elim, arith}
use Rattle.std.proofs.lemmas.Bool.{cases_lt}
use Rattle.tree.specs.declared.row.Row.{Row}
use Rattle.tree.specs.declared.tree.Tree.{Tree}
use Rattle.tree.specs.Forest.{Forest, Nested, children, end_at, forest, nil, node, row_at}
use Rattle.tree.specs.Subject.{tree_rows}
use Rattle.tree.proofs.Grown.{Span, end_in_rows, forest_none, forest_some, span_all, span_children, span_rest}
use Rattle.tree.proofs.Sections.{counted}

abbrev pub append : Forest → Forest → Forest
append nil g = g
append (node j r ks f) g = node j r ks (append f g)

-- what a tree's own invariant says of its ends
pub nested_of : (t : Tree) → Nested (tree_rows t)
nested_of t = t.rows.nested

pub few_rows : (t : Tree) → length (tree_rows t) ≤ 65536
few_rows t = let few = t.rows.rows.few in omega (arith, counted t.rows.rows.bytes.now)

module _ (rs : List Row) (law : Nested rs) where
  split_by : (f : ℕ) (j m n : ℕ) → m ≤ j + f → m ≤ n → j ≤ m → Span rs j m → Span rs j n → forest rs j n ≡ append (forest rs j m) (forest rs m n)
  split_by zero j m n a b l s t =
      let e : m ≡ j = omega arith in
      rw (forest_none rs law j m (omega arith), e)
  split_by (suc f) j m n a b l s t =
      ⊎_elim
      (λ h.
      let up : j < end_at rs j = law.above j (omega (arith, s.in_rows)) in
      let le : end_at rs j ≤ m = s.closed j (omega arith) h in
      let rest = split_by f (end_at rs j) m n (omega arith) b le (span_rest rs law j m h s) (span_rest rs law j n (omega arith) t) in
      rw (forest_some rs law j m h s, forest_some rs law j n (omega arith) t) (ap (node j (row_at rs j) (children rs j)) rest))
      (λ h. let e : m ≡ j = omega arith in rw (forest_none rs law j m h, e))
      (cases_lt j m)

  -- the rows after row j are those that it encloses, and then those from its end on
  pub forest_on : (j : ℕ) → j < length rs → forest rs (j + 1) (length rs) ≡ append (children rs j) (forest rs (end_at rs j) (length rs))
  forest_on j h =
      let up : j < end_at rs j = law.above j h in
      split_by (length rs) (j + 1) (end_at rs j) (length rs) (omega (arith, end_in_rows rs law j h)) (end_in_rows rs law j h) (omega arith) (span_children rs law j up) (span_all rs law (j + 1))

  pub forest_at : (j : ℕ) → j < length rs → forest rs j (length rs) ≡ node j (row_at rs j) (children rs j) (forest rs (end_at rs j) (length rs))
  forest_at j h = forest_some rs law j (length rs) h (span_all rs law j)
