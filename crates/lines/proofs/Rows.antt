-- The rows of a list that are left to write, one by one.
use Rattle.std.proofs.Common.{◌≡◌, ℕ, ◌+◌, ◌<◌, List, ◌++◌, length, get_or, drop, Ok, codes, sym, ap, ◌∙◌, subst}
use Rattle.std.proofs.lemmas.List.{at_drop_more}
use Rattle.std.specs.Fmt.{WritesOnOk}
use Rattle.std.specs.declared.fmt.Formatter.{Formatter}
use Rattle.lines.specs.Listed.{after_commas}
use Rattle.lines.proofs.Underway.{Going, one_more}

module _ {R : Type 0} (text : R → List ℕ) (rows : List R) where
  row_comes : (i : ℕ) (row : R) → i < length rows → row ≡ get_or rows i row → after_commas text (drop i rows) ≡ codes "," ++ (text row ++ after_commas text (drop (i + 1) rows))
  row_comes i row h e =
      at_drop_more (after_commas text) rows i row h ∙ ap (λ r. codes "," ++ (text r ++ after_commas text (drop (i + 1) rows))) (sym e)

  module _ {W : Type 0} (took : W → List ℕ → W → Type 0) (f : Formatter W) (whole : List ℕ) where
    -- a comma and then a row were written
    pub row_written : (i : ℕ) (row : R) → i < length rows → row ≡ get_or rows i row → (g h k : Formatter W) → Going took f whole g (after_commas text (drop i rows)) → WritesOnOk took g (Ok tt) (codes ",") h → WritesOnOk took h (Ok tt) (text row) k → Going took f whole k (after_commas text (drop (i + 1) rows))
    row_written i row l e g h k going comma shown =
        let left = after_commas text (drop (i + 1) rows) in
        one_more took f whole h (text row) left k (one_more took f whole g (codes ",") (text row ++ left) h (subst (Going took f whole g) (row_comes i row l e) going) comma) shown
