-- The value of the subject, and its first node.
use Rattle.xp_outcome.proofs.Runs.{ran_bind, ran_stop}
use Rattle.xp_meaning.proofs.Exits.{exit_same, ran_done_at}
use Rattle.rule_run.proofs.validator.Validator.first_selected.Goals as goal

pub returns-in_err-value : goal.returns-in_err-value
returns-in_err-value g c = exit_same _ _ c.from_residual.ensures.1 (ran_stop _ _ c.in_err-value.ensures)

pub returns : goal.returns
returns g c = ran_bind _ c.in_ok-value.ensures (ran_done_at _ _ _ c.first_or-first.ensures)
