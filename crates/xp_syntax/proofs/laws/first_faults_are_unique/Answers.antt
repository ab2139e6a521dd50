use Rattle.xp_syntax.proofs.Places.{unique}
use Rattle.xp_syntax.proofs.laws.first_faults_are_unique.Goals as goal

pub returns : goal.returns
returns c = unique c.texts_read_once.ensures
