-- Blocks in order do not overlap.
use Rattle.std.proofs.Common.{◌≡◌, ℕ, zero, suc, ◌+◌, ◌-◌, ◌<◌, ◌≤◌, List, subst, arith}
use Rattle.shelf.specs.Pairs.{LawfulBlocks, NoBlocksOverlap, end_of, pair}

module _ (bytes : List ℕ) (start count : ℕ) (lawful : LawfulBlocks bytes start count) where
  -- the block that comes k blocks later but one
  later : (k m : ℕ) → m + suc k < count → end_of (pair bytes start m) ≤ (pair bytes start (m + suc k)).offset
  later zero m h = lawful.in_order m h
  later (suc k) m h =
      let before = later k m (omega arith) in
      let next = lawful.in_order (m + suc k) (omega arith) in
      let e : (m + suc k) + 1 ≡ m + suc (suc k) = omega arith in
      subst (λ n. end_of (pair bytes start m) ≤ (pair bytes start n).offset) e (omega (arith, before, next))

pub no_blocks_overlap : NoBlocksOverlap
no_blocks_overlap bytes start count lawful m n before inside =
    let e : m + suc (n - suc m) ≡ n = omega arith in
    subst (λ x. end_of (pair bytes start m) ≤ (pair bytes start x).offset) e (later bytes start count lawful (n - suc m) m (omega arith))
