-- Part by part.
use Rattle.sch_flat_laws.proofs.Reading.Whole.{whole}
use Rattle.sch_flat_laws.proofs.flat_schemas_are_read_back.Goals as goal

pub returns : goal.returns
returns c = λ schema T scoped good.
    let laws = c.well_formed_is_enough.ensures T scoped.well_formed in
    whole T scoped.well_formed laws.0 laws.1 laws.2 laws.3 scoped.in_scope schema scoped good
