use Rattle.std.proofs.Common.{subst}
use Rattle.block_lines.specs.Analyses.{AnalysisOf}
use Rattle.block_lines.proofs.Told.{answers_refused, answers_told, answers_without_room}
use Rattle.block_lines.proofs.answer.answers_line.Goals as goal

pub returns-in_err-found-clause-line : goal.returns-in_err-found-clause-line
returns-in_err-found-clause-line c =
    λ m block s t analysed. answers_refused m block s t _ _ _ c.from_residual.result (subst (λ r. AnalysisOf m block s t r c.args.cjs.now c.args.es.now) c.in_err-found.was analysed) c.from_residual.ensures.1

pub returns-in_err-and-clause-line : goal.returns-in_err-and-clause-line
returns-in_err-and-clause-line c =
    λ m block s t analysed. answers_without_room m block s t _ _ _ _ c.from_residual-in_err-and.result (subst (λ r. AnalysisOf m block s t r c.args.cjs.now c.args.es.now) c.in_ok-found.was analysed) c.in_err-and.ensures c.from_residual-in_err-and.ensures.1

pub returns-clause-line : goal.returns-clause-line
returns-clause-line c =
    λ m block s t analysed. answers_told m block s t _ _ _ _ c.names_of.result c.names_of-2.result (subst (λ r. AnalysisOf m block s t r c.args.cjs.now c.args.es.now) c.in_ok-found.was analysed) c.in_ok-and.ensures c.names_of.ensures c.names_of-2.ensures
