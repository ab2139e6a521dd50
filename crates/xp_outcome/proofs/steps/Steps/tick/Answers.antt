use Rattle.std.proofs.Common.{rules}
use Rattle.xp_outcome.proofs.steps.Steps.tick.Goals as goal

pub invariant_of-self : goal.invariant_of-self
invariant_of-self c = search rules
