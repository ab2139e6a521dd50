-- Units are local, since evaluations and matching are.
use Rattle.sch_locality_laws.proofs.UnitLemmas.{given_lets_are_local}
use Rattle.sch_locality_laws.proofs.OwnLetsLemmas.{own_lets_are_local}
use Rattle.sch_locality_laws.proofs.units_are_local.Goals as goal

pub returns : goal.returns
returns c =
    let given = given_lets_are_local c.evaluations_are_local.ensures.expressions c.matches_are_local.ensures in
    record { given = given; own = own_lets_are_local given }
