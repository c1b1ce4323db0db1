-- The order of keys.
use Rattle.std.proofs.Common.{◌≡◌, ℕ, List, Ordering, Less, Equal, Greater, sym, ap, ◌∙◌, true≢false}
use Rattle.std.specs.Ordering.{is_lt, ordering_reverse}
use Rattle.std.specs.Cmp.{nat_cmp_total}
use Rattle.text.specs.Reading.{order}
use Rattle.std.specs.Cmp.Lexicographic.{lists_total}

own_by : (o : Ordering) → o ≡ ordering_reverse o → o ≡ Less → ⊥
own_by Less f e = true≢false (ap is_lt f)
own_by Equal f e = true≢false (sym (ap is_lt e))
own_by Greater f e = true≢false (sym (ap is_lt e))

pub order_own : (k : List ℕ) → order k k ≡ Less → ⊥
order_own k e = own_by (order k k) ((lists_total nat_cmp_total).antisymm k k) e

pub order_flip : (a b : List ℕ) → order a b ≡ Greater → order b a ≡ Less
order_flip a b e = (lists_total nat_cmp_total).antisymm b a ∙ ap ordering_reverse e

-- keys that are not equal by the order are two keys
pub less_apart : (a b : List ℕ) → order a b ≡ Less → a ≡ b → ⊥
less_apart a b e q = order_own a (ap (order a) q ∙ e)

pub greater_apart : (a b : List ℕ) → order a b ≡ Greater → a ≡ b → ⊥
greater_apart a b e q = less_apart b a (order_flip a b e) (sym q)
