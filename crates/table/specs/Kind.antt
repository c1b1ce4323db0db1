-- A kind of rows, and a table of them.
use Rattle.std.specs.Prelude.{◌≡◌, ℕ, Bool, List, ◌++◌, map, length, take, is_ok, Result, nat_le}
use Rattle.std.specs.declared.cmp.Ordering.{Ordering}
use Rattle.table.specs.declared.table.Full.{Full}
use Rattle.table.specs.declared.table.OrderedTable.{OrderedTable}
use Rattle.table.specs.Table.{Entered, InOrder, Left, Rest, insert_row, place, put_row, without}

-- how rows of a type are kept in order: the key of a row in a text, the row that stands where none is, and the order of keys
pub record Kind (X : Type 0) : Type 1 where
  pub key : List ℕ → X → List ℕ
  pub zero : X
  pub order : List ℕ → List ℕ → Ordering

-- the first n rows rise strictly by their keys in the text, and the rest is zero
pub record Holds {X : Type 0} (k : Kind X) (text : List ℕ) (n : ℕ) (rows : List X) : Type 0 where
  pub ordered : InOrder k.order (k.key text) (take n rows)
  pub rest : Rest k.zero n rows

-- the rows that a table holds, and a table that holds them so
abbrev pub held : {X : Type 0} → OrderedTable X → List X
held t = take t.len t.rows.now

abbrev pub Ordered : {X : Type 0} → Kind X → List ℕ → OrderedTable X → Type 0
Ordered k text t = Holds k text t.len t.rows.now

-- where a key belongs in a table
abbrev pub place_in : {X : Type 0} → Kind X → List ℕ → List ℕ → OrderedTable X → Result ℕ ℕ
place_in k needle text t = place k.order needle (map (k.key text) (held t))

-- what an entry that is to leave ys in the table s answers, and leaves in t, in the rows that were lent to s
pub record Enters {X E : Type 0} (k : Kind X) (ys : List X) (s : OrderedTable X) (r : Result Bool E) (t : OrderedTable X) : Type 0 where
  pub rows : Entered k.zero s.len s.rows.now ys r t.len t.rows.now
  pub lender : t.rows.ghost_name ≡ s.rows.ghost_name

-- what an insertion and a replacement answer and leave
abbrev pub Inserts : {X E : Type 0} → Kind X → List ℕ → X → OrderedTable X → Result Bool E → OrderedTable X → Type 0
Inserts k text r s = Enters k (insert_row k.order (k.key text) r (held s)) s

abbrev pub Puts : {X E : Type 0} → Kind X → List ℕ → X → OrderedTable X → Result Bool E → OrderedTable X → Type 0
Puts k text r s = Enters k (put_row k.order (k.key text) r (held s)) s

-- how many rows a table can hold
abbrev pub capacity : {X : Type 0} → OrderedTable X → ℕ
capacity t = length t.rows.now

-- the table t holds ys, and then zero rows, in the rows that were lent to s
pub record Leaves {X : Type 0} (k : Kind X) (ys : List X) (s t : OrderedTable X) : Type 0 where
  pub rows : Left k.zero (capacity s) ys t.len t.rows.now
  pub lender : t.rows.ghost_name ≡ s.rows.ghost_name

-- what a removal leaves
abbrev pub Removes : {X : Type 0} → Kind X → List ℕ → OrderedTable X → OrderedTable X → OrderedTable X → Type 0
Removes k text other s = Leaves k (without k.order (k.key text) (held other) (held s)) s

-- the table t holds what s held and then ys, cut off at its capacity
abbrev pub Extended : {X : Type 0} → Kind X → List X → OrderedTable X → OrderedTable X → Type 0
Extended k ys s = Leaves k (take (capacity s) (held s ++ ys)) s

-- the same, with the answer: Ok exactly where nothing is cut off
pub record Appended {X : Type 0} (k : Kind X) (ys : List X) (s : OrderedTable X) (r : Result (Unit {0}) Full) (t : OrderedTable X) : Type 0 where
  pub answer : is_ok r ≡ nat_le (length (held s ++ ys)) (capacity s)
  pub table : Extended k ys s t
