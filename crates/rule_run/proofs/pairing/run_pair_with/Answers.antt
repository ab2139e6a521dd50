use Rattle.rule_run.proofs.Keeps.{pair_stops}
use Rattle.rule_run.proofs.pairing.run_pair_with.Goals as goal

pub returns-in_err-outcome-clause-ran : goal.returns-in_err-outcome-clause-ran
returns-in_err-outcome-clause-ran g c = pair_stops _ c.from_residual.result c.from_residual.ensures.1 c.in_err-outcome.ensures.ran
