-- The order lists each node once.
use Rattle.sch_rules.proofs.FirstLemmas.{agrees}
use Rattle.sch_rules.proofs.laws.first_agrees.Goals as goal

pub returns : goal.returns
returns c = λ T formed. agrees T (c.well_formed_is_enough.ensures T formed).0.once
