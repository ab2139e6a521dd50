use Rattle.pyx_core.proofs.StayLemmas.{stays}
use Rattle.pyx_core.proofs.laws.faults_stay.Goals as goal

pub returns : goal.returns
returns c = stays
