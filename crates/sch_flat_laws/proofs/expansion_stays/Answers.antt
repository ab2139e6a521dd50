-- It reads as that schema, in which nothing is left to expand.
use Rattle.sch_rules.specs.RawSchema.{raw_schema}
use Rattle.sch_flat_laws.proofs.Reading.AgainLemmas.{expanded_again}
use Rattle.sch_flat_laws.proofs.expansion_stays.Goals as goal

pub returns : goal.returns
returns c = λ schema T scoped good.
    expanded_again c.flat_schemas_stay.ensures schema (raw_schema T) (c.flat_schemas_are_read_back.ensures schema T scoped good)
