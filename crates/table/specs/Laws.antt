-- What the place of a key, and rows in order after an entry, a replacement and a removal, are in words.
use Rattle.std.specs.Prelude.{◌≡◌, ◌≢◌, ℕ, ◌<◌, ◌≤◌, ◌⊎◌, ◌↔◌, List, [], ◌∷◌, map, length, Ok, Err, Contains}
use Rattle.std.specs.List.{AllWithin, HoldsAt}
use Rattle.std.specs.declared.cmp.Ordering.TheVariants.{Greater, Less}
use Rattle.std.specs.declared.cmp.Ordering.{Ordering}
use Rattle.table.specs.Table.{Ascends, InOrder, insert_row, place, put_row, without}

-- the key k stands at i
abbrev pub StandsAt : {K : Type 0} → K → List K → ℕ → Type 0
StandsAt k keys i = (i < length keys) × HoldsAt (λ x. x ≡ k) keys i

-- every key before i is less than k, and every key from i on is greater
abbrev pub BelongsAt : {K : Type 0} → (K → K → Ordering) → K → List K → ℕ → Type 0
BelongsAt o k keys i = (i ≤ length keys) × AllWithin (λ x. o x k ≡ Less) keys 0 i × AllWithin (λ x. o x k ≡ Greater) keys i (length keys)

-- among keys that rise strictly, `place` is Ok i exactly where the key stands at i, and Err i exactly where it belongs at i, so that it stands nowhere
pub record PlaceStandsOrBelongs {K : Type 0} (o : K → K → Ordering) : Type 0 where
  pub stands : (k : K) (keys : List K) → Ascends o keys → (i : ℕ) → (place o k keys ≡ Ok i) ↔ StandsAt k keys i
  pub belongs : (k : K) (keys : List K) → Ascends o keys → (i : ℕ) → (place o k keys ≡ Err i) ↔ BelongsAt o k keys i

-- a row of xs has the key k
abbrev pub HasKey : {X K : Type 0} → (X → K) → K → List X → Type 0
HasKey key k xs = Contains (map key xs) k

-- ys is xs, or what is left of it without some of its rows
abbrev pub PartOf : {X : Type 0} → List X → List X → Type 0
PartOf [] xs = Unit {0}
PartOf (y ∷ ys) [] = ⊥
PartOf (y ∷ ys) (x ∷ xs) = ((y ≡ x) × PartOf ys xs) ⊎ PartOf (y ∷ ys) xs

module _ {X K : Type 0} (o : K → K → Ordering) (key : X → K) where
  -- an insertion adds the row exactly where none has its key; it drops none, and the keys rise strictly after it
  pub record InsertAddsNewKeys : Type 0 where
    pub members : (r : X) (xs : List X) → InOrder o key xs → (x : X) → Contains (insert_row o key r xs) x ↔ (Contains xs x ⊎ ((x ≡ r) × (HasKey key (key r) xs → ⊥)))
    pub ordered : (r : X) (xs : List X) → InOrder o key xs → InOrder o key (insert_row o key r xs)

  -- a replacement adds the row; it drops that of its key alone, and the keys rise strictly after it
  pub record PutReplacesItsKey : Type 0 where
    pub members : (r : X) (xs : List X) → InOrder o key xs → (x : X) → Contains (put_row o key r xs) x ↔ ((x ≡ r) ⊎ (Contains xs x × (key x ≢ key r)))
    pub ordered : (r : X) (xs : List X) → InOrder o key xs → InOrder o key (put_row o key r xs)

  -- a removal leaves exactly the rows whose keys no row of the others has, one after the other as they stood
  pub record RemovalLeavesOtherKeys : Type 0 where
    pub members : (others xs : List X) → InOrder o key others → (x : X) → Contains (without o key others xs) x ↔ (Contains xs x × (HasKey key (key x) others → ⊥))
    pub part : (others xs : List X) → PartOf (without o key others xs) xs
