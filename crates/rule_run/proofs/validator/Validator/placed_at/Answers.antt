-- The subject that is there, or the node itself.
use Rattle.xp_outcome.proofs.Runs.{ran_done}
use Rattle.rule_run.proofs.validator.Validator.placed_at.Goals as goal

pub returns-in-Some : goal.returns-in-Some
returns-in-Some g c = rw c.in-Some.is c.first_selected.ensures

pub returns-in-None : goal.returns-in-None
returns-in-None g c = rw c.in-None.is (ran_done _ _ _)
