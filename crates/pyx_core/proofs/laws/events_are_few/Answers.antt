use Rattle.pyx_core.proofs.EventCountLemmas.{events_few}
use Rattle.pyx_core.proofs.laws.events_are_few.Goals as goal

pub returns : goal.returns
returns c = events_few
