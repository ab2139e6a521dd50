-- The lets are those of the phase, and the patterns those that it names.
use Rattle.std.proofs.Common.{rules}
use Rattle.sch_phases.proofs.phases.choice_of.Goals as goal

pub returns : goal.returns
returns c = search rules
