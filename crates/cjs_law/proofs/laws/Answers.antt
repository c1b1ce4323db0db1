use Rattle.cjs_law.proofs.Decided.{acts_decide_the_lists}
use Rattle.cjs_law.proofs.RowActs.{walked_rows_decide_the_acts}
use Rattle.cjs_law.proofs.Walked.{walk_reaches_what_is_not_skipped}
use Rattle.cjs_law.proofs.laws.Goals as goal

pub returns : goal.returns
returns c = record { walk = walk_reaches_what_is_not_skipped; acts = walked_rows_decide_the_acts; lists = acts_decide_the_lists }
