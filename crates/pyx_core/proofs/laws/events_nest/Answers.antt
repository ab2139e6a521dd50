use Rattle.pyx_core.proofs.NestingLemmas.{events_nest}
use Rattle.pyx_core.proofs.laws.events_nest.Goals as goal

pub returns : goal.returns
returns c = events_nest
