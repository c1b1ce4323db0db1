-- What a table in order holds, and what it holds after an entry, a replacement and a removal.
use Rattle.std.specs.Prelude.{◌≡◌, ℕ, suc, ◌-◌, ◌<◌, ◌≤◌, Bool, List, [], ◌∷◌, ◌++◌, map, length, drop, replicate, is_err, Ok, Err, filter, Result, nat_lt}
use Rattle.std.specs.List.{AllPairs}
use Rattle.std.specs.Ordering.{match_ordering}
use Rattle.std.specs.declared.cmp.Ordering.TheVariants.{Less}
use Rattle.std.specs.declared.cmp.Ordering.{Ordering}

abbrev pub later : Result ℕ ℕ → Result ℕ ℕ
later (Ok i) = Ok (suc i)
later (Err i) = Err (suc i)

-- where k stands among the keys, or the first place before a greater one
abbrev pub place : {K : Type 0} → (K → K → Ordering) → K → List K → Result ℕ ℕ
place o k [] = Err 0
place o k (x ∷ xs) = match_ordering (o k x) (Err 0) (Ok 0) (later (place o k xs))

-- the row goes before the first of a greater key; where one of its key stands, `pick` of the two takes that one's place
abbrev pub enter_row : {X K : Type 0} → (X → X → X) → (K → K → Ordering) → (X → K) → X → List X → List X
enter_row pick o key r [] = r ∷ []
enter_row pick o key r (x ∷ xs) = match_ordering (o (key r) (key x)) (r ∷ x ∷ xs) (pick r x ∷ xs) (x ∷ enter_row pick o key r xs)

-- an entry after which a row of the same key that stood there stands
abbrev pub insert_row : {X K : Type 0} → (K → K → Ordering) → (X → K) → X → List X → List X
insert_row = enter_row (λ r x. x)

-- an entry after which the new row stands in its place
abbrev pub put_row : {X K : Type 0} → (K → K → Ordering) → (X → K) → X → List X → List X
put_row = enter_row (λ r x. r)

-- the rows whose keys are not among those of others
abbrev pub without : {X K : Type 0} → (K → K → Ordering) → (X → K) → List X → List X → List X
without o key others xs = filter (λ r. is_err (place o (key r) (map key others))) xs

-- keys that rise strictly
abbrev pub Ascends : {K : Type 0} → (K → K → Ordering) → List K → Type 0
Ascends o = AllPairs (λ x y. o x y ≡ Less)

-- rows whose keys rise strictly
pub record InOrder {X K : Type 0} (o : K → K → Ordering) (key : X → K) (xs : List X) : Type 0 where
  pub up : Ascends o (map key xs)

-- xs, and then z up to a length
abbrev pub padded : {X : Type 0} → X → ℕ → List X → List X
padded z cap xs = xs ++ replicate (cap - length xs) z

-- there are n rows at least, and those past the first n are z
pub record Rest {X : Type 0} (z : X) (n : ℕ) (rows : List X) : Type 0 where
  pub fits : n ≤ length rows
  pub zeros : drop n rows ≡ replicate (length rows - n) z

-- ys fits, and stands among the rows, with the rest z; new says whether it is longer than n
pub record Stored {X : Type 0} (z : X) (n : ℕ) (rows ys : List X) (new : Bool) (m : ℕ) (after : List X) : Type 0 where
  pub room : length ys ≤ length rows
  pub new_is : new ≡ nat_lt n (length ys)
  pub len_is : m ≡ length ys
  pub rows_is : after ≡ padded z (length rows) ys

-- ys does not fit, and all is as it was
pub record Refused {X : Type 0} (n : ℕ) (rows ys : List X) (m : ℕ) (after : List X) : Type 0 where
  pub full : length rows < length ys
  pub len_is : m ≡ n
  pub rows_is : after ≡ rows

-- what a call that is to leave ys among the rows answers and leaves
abbrev pub Entered : {X E : Type 0} → X → ℕ → List X → List X → Result Bool E → ℕ → List X → Type 0
Entered z n rows ys (Ok new) m after = Stored z n rows ys new m after
Entered z n rows ys (Err e) m after = Refused n rows ys m after

-- ys stands among the rows, with the rest z
pub record Left {X : Type 0} (z : X) (cap : ℕ) (ys : List X) (m : ℕ) (after : List X) : Type 0 where
  pub len_is : m ≡ length ys
  pub rows_is : after ≡ padded z cap ys
