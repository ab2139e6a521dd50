use Rattle.xp_meaning.proofs.Places.{number_is_position}
use Rattle.xp_meaning.proofs.laws.number_is_position.Goals as goal

pub returns : goal.returns
returns c = number_is_position
