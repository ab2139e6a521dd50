use Rattle.xp_meaning_laws.proofs.Bounded.{values_are_bounded}
use Rattle.xp_meaning_laws.proofs.values_are_bounded.Goals as goal

pub returns : goal.returns
returns c = λ T formed. values_are_bounded T formed (c.well_formed_is_enough.ensures T formed).0
