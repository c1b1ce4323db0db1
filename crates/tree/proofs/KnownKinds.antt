-- Every row of a lawful tree has a kind, and a mark of at most 1. So has the row of zeros past them.
use Rattle.std.proofs.Common.{◌≡◌, ◌∙◌, Ok, Err, Result, rules, ℕ, ◌<◌, ◌≤◌, Bool, true, false, cond, not, ◌==◌, List, [], ◌∷◌, length, zero, suc, ⊎_elim, subst, ap, refl, arith}
use denote.Enum.Bare.{sameb}
use denote.Enum.Declared.{tag_of}
use Rattle.kinds.specs.Kinds.{assign, num, program}
use Rattle.kinds.specs.contracts.kind.Kind.{the_type}
use Rattle.std.specs.Result.{result_unwrap_or}
use Rattle.kinds.specs.declared.kind.Kind.{Kind}
use Rattle.kinds.specs.declared.kind.Kind.TheVariants.{Other}
use Rattle.kinds.specs.declared.kind.UnknownKind.{UnknownKind}
use Rattle.kinds.specs.Number.{Decodes, number}
use Rattle.kinds.specs.Shape.{among, highest_mark}
use Rattle.std.proofs.lemmas.Bool.{and_parts, cases_lt, leb-true, ltb-true}
use Rattle.std.proofs.lemmas.List.{get_or_past}
use Rattle.tree.specs.declared.row.Row.{Row}
use Rattle.tree.specs.Forest.{blank, row_at}
use Rattle.tree.specs.Shaped.{LawfulShape}

parts : (rs : List Row) (j : ℕ) → LawfulShape rs j → ((row_at rs j).kind < 50) × ((row_at rs j).mark ≤ highest_mark (row_at rs j).kind)
parts rs j h =
    let a = and_parts _ _ h in
    let b = and_parts _ _ a.0 in
    let c = and_parts _ _ b.0 in
    (ltb-true _ _ c.0, leb-true _ _ b.1)

pub known : (rs : List Row) → ((j : ℕ) → j < length rs → LawfulShape rs j) → (j : ℕ) → 50 ≤ (row_at rs j).kind → ⊥
known rs shaped j h =
    ⊎_elim
    (λ inside. omega (arith, (parts rs j (shaped j inside)).0))
    (λ past. let e = get_or_past rs j blank past in omega (arith, subst (λ r. 50 ≤ r.kind) e h))
    (cases_lt j (length rs))

at_most_one : (b : Bool) → cond b 1 0 ≤ 1
at_most_one true = omega arith
at_most_one false = omega arith

-- so a mark other than 1 is 0
pub marked : (rs : List Row) → ((j : ℕ) → j < length rs → LawfulShape rs j) → (j : ℕ) → (row_at rs j).mark ≤ 1
marked rs shaped j =
    ⊎_elim
    (λ inside.
    let o : highest_mark (row_at rs j).kind ≤ 1 = at_most_one (among (program ∷ num ∷ assign ∷ []) (row_at rs j).kind) in
    omega (arith, (parts rs j (shaped j inside)).1))
    (λ past. let e = get_or_past rs j blank past in omega (arith, ap (λ r. r.mark) e))
    (cases_lt j (length rs))

pub unmarked : (m : ℕ) → m ≤ 1 → not (m == 1) ≡ (m == 0)
unmarked zero h = refl
unmarked (suc zero) h = refl
unmarked (suc (suc m)) h = absurd (omega arith)

pub decoded : (n : ℕ) (r : Result Kind UnknownKind) (k : Kind) → Decodes n r → (50 ≤ n → ⊥) → k ≡ result_unwrap_or r Other → number k ≡ n
decoded n (Ok x) k d known e = ap number e ∙ d
decoded n (Err f) k d known e = absurd (known d.1)

-- kinds are equal exactly where their numbers are
tag_is_number : (k : Kind) → tag_of the_type k ≡ number k
tag_is_number k = search rules

pub same_kind : (k a : Kind) (n : ℕ) → number k ≡ n → sameb the_type k a ≡ (n == number a)
same_kind k a n e = (λ i. tag_is_number k i == tag_is_number a i) ∙ ap (λ n. n == number a) e
