use Rattle.pyx_core.proofs.StayLemmas.{completed_stays}
use Rattle.pyx_core.proofs.laws.completed_events_stay.Goals as goal

pub returns : goal.returns
returns c = completed_stays
