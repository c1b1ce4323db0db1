-- The laws of the walk and of its acts, for the function that promises them.
use Rattle.cjs_law.proofs.Decided.{acts_decide_the_lists}
use Rattle.cjs_law.proofs.RowActs.{walked_rows_decide_the_acts}
use Rattle.cjs_law.proofs.Walked.{walk_reaches_what_is_not_skipped}
use Rattle.cjs_parse.proofs.RequireArg.{require_arg_by_first}

pub ruleset walk_laws = (acts_decide_the_lists, require_arg_by_first, walk_reaches_what_is_not_skipped, walked_rows_decide_the_acts)
