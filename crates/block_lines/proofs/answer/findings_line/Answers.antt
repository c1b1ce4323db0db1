use Rattle.std.proofs.Common.{subst}
use Rattle.block_lines.specs.Analyses.{AnalysisOf}
use Rattle.block_lines.proofs.Told.{findings_refused}
use Rattle.block_lines.proofs.answer.findings_line.Goals as goal

pub returns-in_err-found-clause-line : goal.returns-in_err-found-clause-line
returns-in_err-found-clause-line c =
    λ m block s t analysed. findings_refused m block s t _ _ _ c.from_residual.result (subst (λ r. AnalysisOf m block s t r c.args.cjs.now c.args.es.now) c.in_err-found.was analysed) c.from_residual.ensures.1
