use Rattle.xp_outcome.proofs.Outcomes.{bind-done, bind-right, bind_after_fault, bind_assoc}
use Rattle.xp_outcome.proofs.laws.outcomes_compose.Goals as goal

pub returns : goal.returns
returns g c = record { nothing_before = bind-done; nothing_after = bind-right; fault_ends = bind_after_fault; brackets = bind_assoc }
