use Rattle.std.proofs.Common.{rules, arith}
use Rattle.std.proofs.lemmas.Bool.{both_ways, ltb-true}
use Rattle.text.proofs.Coding.{two_begin, three_begin, four_begin, none_begins}
use Rattle.text.proofs.points.split_point.Goals as goal
use Rattle.text.proofs.points.split_point.Goals.{in_default-via-then-bytes-lt2, in_default-via-in-len2-up+else-two_bytes+else-bytes-lt1-3+then-bytes-lt3, in_default-via-in-len3-up+else-three_bytes+else-bytes-lt1-4+then-bytes-lt4, in_default-via-in-len4-up+else-four_bytes}

pub returns-in-len2-up : goal.returns-in-len2-up
returns-in-len2-up c = two_begin _ _ c.in-len2-up.len_at_least (c.two_bytes.ensures.0 c.if-two_bytes.true) (search rules)

pub returns-in-len3-up : goal.returns-in-len3-up
returns-in-len3-up c = three_begin _ _ c.in-len3-up.len_at_least (c.three_bytes.ensures.0 c.if-three_bytes.true) (search rules)

pub returns-in-len4-up : goal.returns-in-len4-up
returns-in-len4-up c = four_begin _ _ c.in-len4-up.len_at_least (c.four_bytes.ensures.0 c.if-four_bytes.true) (search rules)

pub returns-in_default : goal.returns-in_default
returns-in_default c =
    let none = none_begins c.args.bytes.now c.if-a-lt128.false in (
      elim c.in_default.branch [
        | in_default-via-then-bytes-lt2 w ↦ none (λ l _. omega (arith, ltb-true)) (λ l _. omega (arith, ltb-true)) (λ l _. omega (arith, ltb-true))
        | in_default-via-in-len2-up+else-two_bytes+else-bytes-lt1-3+then-bytes-lt3 w ↦ none (λ _ p. both_ways _ w.if-two_bytes.false (w.two_bytes.ensures.1 p)) (λ l _. omega (arith, ltb-true)) (λ l _. omega (arith, ltb-true))
        | in_default-via-in-len3-up+else-three_bytes+else-bytes-lt1-4+then-bytes-lt4 w ↦ none (λ _ p. both_ways _ w.if-two_bytes.false (w.two_bytes.ensures.1 p)) (λ _ p. both_ways _ w.if-three_bytes.false (w.three_bytes.ensures.1 p)) (λ l _. omega (arith, ltb-true))
        | in_default-via-in-len4-up+else-four_bytes w ↦ none (λ _ p. both_ways _ w.if-two_bytes.false (w.two_bytes.ensures.1 p)) (λ _ p. both_ways _ w.if-three_bytes.false (w.three_bytes.ensures.1 p)) (λ _ p. both_ways _ w.if-four_bytes.false (w.four_bytes.ensures.1 p))
      ],
      omega arith,
    )
