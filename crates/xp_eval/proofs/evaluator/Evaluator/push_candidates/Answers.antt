use Rattle.xp_outcome.proofs.Runs.{ran_late}
use Rattle.xp_eval.proofs.Runs.{exit_found}
use Rattle.xp_eval.proofs.evaluator.Evaluator.push_candidates.Goals as goal

pub returns-in_err-count-clause-ran : goal.returns-in_err-count-clause-ran
returns-in_err-count-clause-ran g c = exit_found _ _ c.from_residual.result c.from_residual.ensures.1 (ran_late _ _ _)
