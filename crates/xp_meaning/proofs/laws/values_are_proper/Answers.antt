use Rattle.xp_meaning.proofs.NodeSets.{values_are_proper}
use Rattle.xp_meaning.proofs.laws.values_are_proper.Goals as goal

pub returns : goal.returns
returns c = λ T formed. values_are_proper T (c.well_formed_is_enough.ensures T formed).0
