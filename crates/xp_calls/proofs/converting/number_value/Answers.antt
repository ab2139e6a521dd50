use Rattle.std.proofs.Common.{subst}
use Rattle.xp_outcome.specs.Running.{Ran}
use Rattle.xp_outcome.proofs.Runs.{ran_bind, ran_done, ran_stop}
use Rattle.xp_meaning.specs.Results.{shown}
use Rattle.xp_calls.proofs.converting.number_value.Goals as goal

pub returns-in-Ok : goal.returns-in-Ok
returns-in-Ok c = λ m held now before after ran.
    ran_bind _ (subst (λ r. Ran m (shown r) held now before after) c.in-Ok.is ran) (ran_done _ _ _)

pub returns-in-Err : goal.returns-in-Err
returns-in-Err c = λ m held now before after ran.
    ran_stop _ _ (subst (λ r. Ran m (shown r) held now before after) c.in-Err.is ran)
