use Rattle.answers.proofs.Streams.{SoFar}
use Rattle.answers.specs.Answers.{lines_by}
use Rattle.answers.specs.Stream.{SameLines}
use Rattle.answers.proofs.stream.answer_stream_in.Given as goal

-- the lines so far, and tables as before
abbrev pub invariant-loop : goal.invariant-loop
invariant-loop g l =
    SoFar (lines_by l.initial.lines) (g.R.Read.remaining l.initial.input) (g.R.Read.remaining l.input) (g.W.Write.contents l.initial.output) (g.W.Write.contents l.output) l.counter
    × SameLines l.initial.lines l.lines
