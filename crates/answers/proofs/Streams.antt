-- What a stream gave, in parts: a part after another, and the lines of all.
use Rattle.std.proofs.Common.{◌≡◌, ℕ, ◌+◌, ◌≤◌, ◌<◌, Bool, true, false, cond, List, [], ◌++◌, codes, length, length-append, append_assoc, append-nil, nat_le, refl, sym, ap, ◌∙◌, subst, arith, true≢false}
use Rattle.std.proofs.lemmas.Bool.{leb-false}
use Rattle.std.specs.Prelude.{Option, Some, None, Result, Ok, Err, IfSome, IsErrAnd}
use Rattle.std.specs.declared.io.Error.{Error}
use Rattle.std.specs.Io.KnownBytes.{Appends, Consumes}
use Rattle.std.proofs.KnownBytes.{Appends-nil, Appends-trans, Consumes-nil, Consumes-trans}
use Rattle.text.specs.Number.{le32}
use Rattle.answers.specs.Answers.{WritesLine, line_end}
use Rattle.answers.specs.Stream.{AnswersAll, WritesLines, EndsAfter, LinesOf, NextAnswered, NextLength, Takes, sized}
use Rattle.answers.specs.Stream.CutStream.{in_length, in_block}
use Rattle.answers.specs.Stream.LinesOf.{block, cut, none}
use Rattle.answers.specs.declared.stream.CutShort.{CutShort as CutRecord}
use Rattle.answers.specs.declared.stream.Length.{Length}
use Rattle.answers.specs.declared.stream.Length.TheVariants.{Fits, TooLong}
use Rattle.answers.specs.declared.stream.StreamError.{StreamError}
use Rattle.answers.specs.declared.stream.StreamError.TheVariants.{CutShort, Io}

longer : (xs ys : List ℕ) (n count : ℕ) → length ys < n → length xs + n ≤ count → length (xs ++ ys) < count
longer xs ys n count short room = let both = length-append xs ys in omega (arith, both)

-- bytes were taken, and then a reader ended before so many more
ended : (a b c : Option (List ℕ)) (bs : List ℕ) (n count : ℕ) (e : StreamError) → Consumes a b bs → length bs + n ≤ count → Takes n b c (Err e) → Takes count a c (Err e)
ended a b c bs n count (CutShort k) first room (part, short, (gave, end)) = (bs ++ part, longer bs part n count short room, (Consumes-trans a b c bs part first gave, end))
ended a b c bs n count (Io k) first room u = tt

pub Takes-ended : (a b c : Option (List ℕ)) (bs : List ℕ) (n count : ℕ) (e : StreamError) (r : Result (Unit {0}) StreamError) → Consumes a b bs → length bs + n ≤ count
    → Takes n b c (Err e) → IsErrAnd r (λ f. f ≡ e) → Takes count a c r
Takes-ended a b c bs n count e (Ok u) first room took is = absurd is
Takes-ended a b c bs n count e (Err f) first room took is = subst (λ x. Takes count a c (Err x)) (sym is) (ended a b c bs n count e first room took)

-- bytes were taken, and then so many more as make the count full
pub Takes-after : (a b c : Option (List ℕ)) (bs : List ℕ) (n count : ℕ) (r : Result (Unit {0}) StreamError) → Consumes a b bs → length bs + n ≡ count → Takes n b c r → Takes count a c r
Takes-after a b c bs n count (Ok u) first full (more, long, gave) =
    (bs ++ more, length-append bs more ∙ ap (λ k. length bs + k) long ∙ full, Consumes-trans a b c bs more first gave)
Takes-after a b c bs n count (Err e) first full took = ended a b c bs n count e first (omega (arith, full)) took

-- a block that fits, or that is too long, has the announced length
abbrev pub number_of : Length → ℕ
number_of (Fits n) = n
number_of (TooLong n) = n

abbrev is_long : Length → Bool
is_long (Fits n) = false
is_long (TooLong n) = true

sized-number : (n room : ℕ) → number_of (sized n room) ≡ n
sized-number n room = elim (nat_le n room) as (λ v. number_of (cond v (Fits n) (TooLong n)) ≡ n) [ true ↦ refl | false ↦ refl ]

number_of_sized : (n room : ℕ) (next : Length) → next ≡ sized n room → number_of next ≡ n
number_of_sized n room next e = ap number_of e ∙ sized-number n room

-- a block that is too long has no room
above : (n room k : ℕ) (v : Bool) → nat_le n room ≡ v → TooLong k ≡ cond v (Fits n) (TooLong n) → room < n
above n room k true le e = absurd (true≢false (ap is_long e))
above n room k false le e = leb-false n room le

too_long_above : (n room k : ℕ) → TooLong k ≡ sized n room → room < k
too_long_above n room k e = subst (λ m. room < m) (sym (number_of_sized n room (TooLong k) e)) (above n room k (nat_le n room) refl e)

module _ (Answers : List ℕ → List ℕ → Type 0) where
  -- a reader that ended before the next block's length, or inside it
  pub answered_ended : (room : ℕ) (a b o : Option (List ℕ)) (e : StreamError) (r : Result Bool StreamError) → NextLength room a b (Err e)
      → IsErrAnd r (λ f. f ≡ e) → NextAnswered Answers a b o o r
  answered_ended room a b o e (Ok u) took is = absurd is
  answered_ended room a b o (CutShort k) (Err f) (head, some, short, end) is = subst (λ x. NextAnswered Answers a b o o (Err x)) (sym is) (head, in_length head some short, end, refl)
  answered_ended room a b o (Io k) (Err f) u is = subst (λ x. NextAnswered Answers a b o o (Err x)) (sym is) tt

  -- the reading or the writing failed
  pub answered_failed : (a b o p : Option (List ℕ)) (e : Error) (r : Result Bool StreamError) → IsErrAnd r (λ f. f ≡ Io e) → NextAnswered Answers a b o p r
  answered_failed a b o p e (Ok u) is = absurd is
  answered_failed a b o p e (Err f) is = subst (λ x. NextAnswered Answers a b o p (Err x)) (sym is) tt

  -- the length that a reader gave is this one, of its two kinds
  module _ (room : ℕ) (a b : Option (List ℕ)) {next : Option Length} {length_of given : Length} (some : next ≡ Some length_of) (is : length_of ≡ given) (took : NextLength room a b (Ok next)) where
    abbrev Follows : Type 0
    Follows = (head : List ℕ) × (length head ≡ 4) × (given ≡ sized (le32 head 0) room) × Consumes a b head

    follows : Follows
    follows = let (head, four, of, gave) = subst (λ x. NextLength room a b (Ok x)) some took in (head, four, sym is ∙ of, gave)

    -- it ended inside the block
    pub answered_cut : (c o : Option (List ℕ)) (n : ℕ) (e : StreamError) (r : Result Bool StreamError) → n ≡ number_of given → Takes n b c (Err e) → IsErrAnd r (λ f. f ≡ e) → NextAnswered Answers a c o o r
    answered_cut c o n e (Ok u) long taken error = absurd error
    answered_cut c o n (CutShort k) (Err f) long (part, short, (gave, end)) error =
        let (head, four, of, first) = follows in
        let number = long ∙ number_of_sized _ _ _ of in
        subst (λ x. NextAnswered Answers a c o o (Err x)) (sym error) (head ++ part, in_block head part four (subst (λ m. length part < m) number short), (Consumes-trans a b c head part first gave, end), refl)
    answered_cut c o n (Io k) (Err f) long u error = subst (λ x. NextAnswered Answers a c o o (Err x)) (sym error) tt

    -- the block follows, and its line was written
    pub answered_whole : (c o p : Option (List ℕ)) (blk : List ℕ) → length blk ≡ number_of given → Consumes b c blk → WritesLine (Answers blk) o p → NextAnswered Answers a c o p (Ok true)
    answered_whole c o p blk long gave writes =
        let (head, four, of, first) = follows in
        (head, blk, four, long ∙ number_of_sized _ _ _ of, Consumes-trans a b c head blk first gave, writes)

    -- a block that is too long is above the room
    pub next_above : (k : ℕ) → given ≡ TooLong k → room < k
    next_above k e = let (head, four, of, gave) = follows in too_long_above _ _ k (sym e ∙ of)

  -- the lines so far, and those of what a reader ended with
  pub lines_ended : (a b c o p q : Option (List ℕ)) (taken written more chunk : List ℕ) (P : List ℕ → Type 0) → Consumes a b taken → Appends o p written
      → ((rest lines : List ℕ) → LinesOf Answers rest lines → LinesOf Answers (taken ++ rest) (written ++ lines)) → EndsAfter b c more → LinesOf Answers more chunk → Appends p q chunk
      → IfSome a (λ xs. P xs → WritesLines Answers o q xs)
  lines_ended None b c o p q taken written more chunk P gave put so end lines last = tt
  lines_ended (Some x) None c o p q taken written more chunk P gave put so end lines last = absurd gave
  lines_ended (Some x) (Some y) None o p q taken written more chunk P gave put so end lines last = absurd end.0
  lines_ended (Some x) (Some y) (Some z) o p q taken written more chunk P gave put so end lines last =
      let left : y ≡ more = end.0 ∙ ap (λ l. more ++ l) end.1 ∙ append-nil more in
      let whole : x ≡ taken ++ more = gave ∙ ap (λ l. taken ++ l) left in
      λ _. (written ++ chunk, subst (λ l. LinesOf Answers l (written ++ chunk)) (sym whole) (so more chunk lines), Appends-trans o p q written chunk put last)

  -- the lines so far, and one more
  pub lines_onward : (taken written head blk line : List ℕ) → ((rest lines : List ℕ) → LinesOf Answers rest lines → LinesOf Answers (taken ++ rest) (written ++ lines)) → length head ≡ 4
      → length blk ≡ le32 head 0 → Answers blk line → (rest lines : List ℕ) → LinesOf Answers rest lines → LinesOf Answers ((taken ++ (head ++ blk)) ++ rest) ((written ++ (line ++ line_end)) ++ lines)
  lines_onward taken written head blk line so four long answers rest lines h =
      let chunk = line ++ line_end in
      let all = so ((head ++ blk) ++ rest) (chunk ++ lines) (block head blk rest line lines four long answers h) in
      subst (λ l. LinesOf Answers ((taken ++ (head ++ blk)) ++ rest) l) (sym (append_assoc written chunk lines))
      (subst (λ l. LinesOf Answers l (written ++ (chunk ++ lines))) (sym (append_assoc taken (head ++ blk) rest)) all)

  -- what was taken and written so far, of which the lines of the rest, after these, are those of the whole
  abbrev pub SoFar : Option (List ℕ) → Option (List ℕ) → Option (List ℕ) → Option (List ℕ) → ℕ → Type 0
  SoFar a b o p n =
      (taken written : List ℕ) × (n ≤ length taken) × Consumes a b taken × Appends o p written
      × ((rest lines : List ℕ) → LinesOf Answers rest lines → LinesOf Answers (taken ++ rest) (written ++ lines))

  pub so_far_none : (a o : Option (List ℕ)) → SoFar a a o o 0
  so_far_none a o = ([], [], omega arith, Consumes-nil a, Appends-nil o, λ rest lines h. h)

  module _ (a b c o p q : Option (List ℕ)) (n : ℕ) (before : SoFar a b o p n) where
    -- one block more
    pub so_far_more : (r : Bool) → r ≡ true → NextAnswered Answers b c p q (Ok r) → SoFar a c o q (n + 1)
    so_far_more r is next =
        let (taken, written, count, gave, put, so) = before in
        let (head, blk, four, long, more, (line, may, wrote)) = subst (λ x. NextAnswered Answers b c p q (Ok x)) is next in
        let all = length-append taken (head ++ blk) in
        let both = length-append head blk in (
          taken ++ (head ++ blk),
          written ++ (line ++ line_end),
          omega (arith, count, four, all, both),
          Consumes-trans a b c taken (head ++ blk) gave more,
          Appends-trans o p q written (line ++ line_end) put wrote,
          lines_onward taken written head blk line so four long may,
        )

    -- the stream ended
    pub so_far_end : (r : Bool) → r ≡ false → NextAnswered Answers b c p q (Ok r) → AnswersAll Answers a o q
    so_far_end r is next =
        let (taken, written, count, gave, put, so) = before in
        let (end, same) = subst (λ x. NextAnswered Answers b c p q (Ok x)) is next in
        lines_ended a b b o p q taken written [] [] _ gave put so (Consumes-nil b, end) none (subst (λ x. Appends p x []) (sym same) (Appends-nil p))

    -- it was cut short, and its last line written
    pub so_far_cut : (r : Option (List ℕ)) (e : StreamError) (k : CutRecord) → e ≡ CutShort k → NextAnswered Answers b c p q (Err e) → Appends q r (codes "short" ++ line_end) → AnswersAll Answers a o r
    so_far_cut r e k is next last =
        let (taken, written, count, gave, put, so) = before in
        let (xs, short, end, same) = subst (λ x. NextAnswered Answers b c p q (Err x)) is next in
        lines_ended a b c o p r taken written xs (codes "short" ++ line_end) _ gave put so end (cut xs short) (subst (λ x. Appends x r (codes "short" ++ line_end)) same last)

-- lines that may be written stay so under a wider rule
pub answered_by : (M L : List ℕ → List ℕ → Type 0) → ((block line : List ℕ) → M block line → L block line) → (a b o p : Option (List ℕ)) (r : Result Bool StreamError) → NextAnswered M a b o p r → NextAnswered L a b o p r
answered_by M L wider a b o p (Ok true) (head, blk, four, long, more, (line, may, wrote)) = (head, blk, four, long, more, (line, wider blk line may, wrote))
answered_by M L wider a b o p (Ok false) next = next
answered_by M L wider a b o p (Err (CutShort k)) next = next
answered_by M L wider a b o p (Err (Io e)) next = tt
