-- A stream of blocks, each after its length: what is read of it, and the lines that it gets.
use Rattle.std.specs.Prelude.{◌≡◌, ℕ, ◌-◌, ◌^◌, ◌≤◌, ◌<◌, Bool, true, false, cond, List, [], ◌++◌, length, ◌==◌, nat_le, nat_lt, Option, Some, None, Result, Ok, Err, IfSome, codes}
use Rattle.std.specs.Io.KnownBytes.{Appends, Consumes, IsAtEnd}
use Rattle.findings.specs.Tables.{Hold, SameLenders, kept, room_of}
use Rattle.findings.specs.declared.tables.FindingsTables.{FindingsTables}
use Rattle.tree.specs.Verdict.{Lawful}
use Rattle.block_lines.specs.Analyses.{cjs_of, es_of}
use Rattle.text.specs.Number.{le32}
use Rattle.answers.specs.Answers.{WritesLine, line_end}
use Rattle.answers.specs.declared.answer.BlockLines.{BlockLines}
use Rattle.answers.specs.declared.stream.CutShort.{CutShort}
use Rattle.answers.specs.declared.stream.Length.{Length}
use Rattle.answers.specs.declared.stream.Length.TheVariants.{Fits, TooLong}
use Rattle.answers.specs.declared.stream.StreamError.{StreamError}
use Rattle.answers.specs.declared.stream.StreamError.TheVariants.{CutShort as Cut, Io}

-- a block of so many bytes fits into the room, or is too long
abbrev pub sized : ℕ → ℕ → Length
sized n room = cond (nat_le n room) (Fits n) (TooLong n)

-- what the bytes given of a length announce: nothing where there is none, a length cut short where there are fewer than four,
-- else a block of as many bytes as their little-endian number says
abbrev pub announced_by : List ℕ → ℕ → Result (Option Length) CutShort
announced_by head room = cond (length head == 0) (Ok None) (cond (nat_lt (length head) 4) (Err (record {})) (Ok (Some (sized (le32 head 0) room))))

-- a block that is announced as one that fits has room
abbrev pub Within : ℕ → Length → Type 0
Within room (Fits n) = n ≤ room
Within room (TooLong n) = Unit {0}

-- a block is kept where all its bytes were given, else the stream was too short
abbrev pub kept_of : ℕ → ℕ → Result (Unit {0}) CutShort
kept_of given count = cond (nat_lt given count) (Err (record {})) (Ok tt)

-- a stream that ends inside a length, or inside a block
pub data CutStream : List ℕ → Type 0 where
  in_length : (head : List ℕ) → 0 < length head → length head < 4 → CutStream head
  in_block : (head part : List ℕ) → length head ≡ 4 → length part < le32 head 0 → CutStream (head ++ part)

-- the lines that a stream gets, where each block may get the lines of a relation: one for each block, and for a stream that is cut
-- short `short` in the end
pub data LinesOf (Answers : List ℕ → List ℕ → Type 0) : List ℕ → List ℕ → Type 0 where
  none : LinesOf Answers [] []
  cut : (xs : List ℕ) → CutStream xs → LinesOf Answers xs (codes "short" ++ line_end)
  block : (head block rest line lines : List ℕ) → length head ≡ 4 → length block ≡ le32 head 0 → Answers block line →
      LinesOf Answers rest lines → LinesOf Answers ((head ++ block) ++ rest) ((line ++ line_end) ++ lines)

-- a writer was given the lines of a stream
abbrev pub WritesLines : (List ℕ → List ℕ → Type 0) → Option (List ℕ) → Option (List ℕ) → List ℕ → Type 0
WritesLines Answers old new xs = (lines : List ℕ) × LinesOf Answers xs lines × Appends old new lines

-- a writer was given the lines of all that a reader had left, where that is known and of fewer than 2 ^ 64 - 1 bytes
abbrev pub AnswersAll : (List ℕ → List ℕ → Type 0) → Option (List ℕ) → Option (List ℕ) → Option (List ℕ) → Type 0
AnswersAll Answers input old new = IfSome input (λ xs. length xs < 2 ^ 64 - 1 → WritesLines Answers old new xs)

-- tables which were s and t are as they were, or as the analyses of some lawful block leave them
pub data LeftBySome (s t s' t' : FindingsTables) : Type 0 where
  untouched : s' ≡ s → t' ≡ t → LeftBySome s t s' t'
  by_block : (block : List ℕ) → Lawful block → Hold (room_of s) (kept (cjs_of (room_of s) block)) s' → Hold (room_of t) (kept (es_of (room_of t) block)) t' → LeftBySome s t s' t'

-- tables have the rows that were lent, as many as before, and hold what they held or what the analyses of some block leave
pub record TablesKept (s t s' t' : FindingsTables) : Type 0 where
  pub lenders : SameLenders s s' × SameLenders t t'
  pub cjs_room : room_of s' ≡ room_of s
  pub es_room : room_of t' ≡ room_of t
  pub left : LeftBySome s t s' t'

-- the lines are of the same kind, and so kept are the tables
pub record SameLines (x y : BlockLines) : Type 0 where
  pub kind : y.kind ≡ x.kind
  pub large : TablesKept x.cjs x.es y.cjs y.es
  pub small : TablesKept x.small_cjs x.small_es y.small_cjs y.small_es

-- a reader ended after these bytes
abbrev pub EndsAfter : Option (List ℕ) → Option (List ℕ) → List ℕ → Type 0
EndsAfter old new bs = Consumes old new bs × IsAtEnd new

-- a reader gave so many bytes, or ended before
abbrev pub Takes : ℕ → Option (List ℕ) → Option (List ℕ) → Result (Unit {0}) StreamError → Type 0
Takes count old new (Ok u) = (bs : List ℕ) × (length bs ≡ count) × Consumes old new bs
Takes count old new (Err (Cut c)) = (bs : List ℕ) × (length bs < count) × EndsAfter old new bs
Takes count old new (Err (Io e)) = Unit {0}

-- a reader gave the next length, or ended before it or inside it
abbrev pub NextLength : ℕ → Option (List ℕ) → Option (List ℕ) → Result (Option Length) StreamError → Type 0
NextLength room old new (Ok None) = IsAtEnd old
NextLength room old new (Ok (Some next)) = (head : List ℕ) × (length head ≡ 4) × (next ≡ sized (le32 head 0) room) × Consumes old new head
NextLength room old new (Err (Cut c)) = (head : List ℕ) × (0 < length head) × (length head < 4) × EndsAfter old new head
NextLength room old new (Err (Io e)) = Unit {0}

-- a reader gave the next block, and a writer was given its line; or the reader ended before the block or inside it, and the writer
-- was given nothing
abbrev pub NextAnswered : (List ℕ → List ℕ → Type 0) → Option (List ℕ) → Option (List ℕ) → Option (List ℕ) → Option (List ℕ) → Result Bool StreamError → Type 0
NextAnswered Answers old new before after (Ok true) =
    (head block : List ℕ) × (length head ≡ 4) × (length block ≡ le32 head 0) × Consumes old new (head ++ block) × WritesLine (Answers block) before after
NextAnswered Answers old new before after (Ok false) = IsAtEnd old × (after ≡ before)
NextAnswered Answers old new before after (Err (Cut c)) = (xs : List ℕ) × CutStream xs × EndsAfter old new xs × (after ≡ before)
NextAnswered Answers old new before after (Err (Io e)) = Unit {0}
