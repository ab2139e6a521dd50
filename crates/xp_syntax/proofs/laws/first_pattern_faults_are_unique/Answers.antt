use Rattle.xp_syntax.proofs.Places.{unique_of_patterns}
use Rattle.xp_syntax.proofs.laws.first_pattern_faults_are_unique.Goals as goal

pub returns : goal.returns
returns c = unique_of_patterns c.texts_read_once.ensures
