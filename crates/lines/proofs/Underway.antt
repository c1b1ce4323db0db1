-- A text that is being written piece by piece, from f on: what is written has led to g, and the rest of the text is left.
use Rattle.std.proofs.Common.{◌≡◌, ℕ, List, ◌++◌, Ok, refl, ◌∙◌, append_assoc}
use Rattle.std.specs.Fmt.{IsPlainFormatter, WritesOnOk, HasWritten}
use Rattle.std.specs.declared.fmt.Formatter.{Formatter}
use Rattle.std.proofs.Output.{has_written_append}

pub record Underway {W : Type 0} (took : W → List ℕ → W → Type 0) (f : Formatter W) (text : List ℕ) (g : Formatter W) (left : List ℕ) : Type 0 where
  pub written : List ℕ
  pub put : HasWritten took f written g
  pub whole : written ++ left ≡ text

-- what a loop that writes keeps, where f is plain
abbrev pub Going : {W : Type 0} → (W → List ℕ → W → Type 0) → Formatter W → List ℕ → Formatter W → List ℕ → Type 0
Going took f text g left = IsPlainFormatter f → Underway took f text g left

module _ {W : Type 0} (took : W → List ℕ → W → Type 0) where
  -- a piece was written, and `left` comes after it
  pub one_more : (f : Formatter W) (text : List ℕ) (g : Formatter W) (piece left : List ℕ) (h : Formatter W) → Going took f text g (piece ++ left) → WritesOnOk took g (Ok tt) piece h → Going took f text h left
  one_more f text g piece left h going prints plain =
      let u = going plain in
      record {
        written = u.written ++ piece;
        put = has_written_append took f u.written g piece h u.put (prints u.put.plain refl);
        whole = append_assoc u.written piece left ∙ u.whole;
      }
