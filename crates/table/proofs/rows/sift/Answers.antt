use Rattle.std.proofs.Common.{is_err, sym, ap, ◌∙◌, arith}
use Rattle.std.proofs.lemmas.List.Filters.{FiltersInPlace-more_no, FiltersInPlace-more_set}
use Rattle.table.proofs.rows.sift.Goals as goal
use Rattle.table.proofs.rows.sift.Goals.{then-is_err, else-is_err}

pub loop-i-preserved : goal.loop-i-preserved
loop-i-preserved g c = elim c.if-is_err.branch [
  | then-is_err w ↦ rw (w.rows-is, w.kept-is) (FiltersInPlace-more_set c.loop-i.invariant (omega arith) (sym (ap is_err c.find.ensures.place) ∙ sym w.if-is_err.ensures.value) c.index-rows-i.is)
  | else-is_err w ↦ rw (w.rows-is, w.kept-is) (FiltersInPlace-more_no c.loop-i.invariant (omega arith) (sym (ap is_err c.find.ensures.place) ∙ sym w.if-is_err.ensures.value) c.index-rows-i.is)
]
