-- Nothing is left to expand.
use Rattle.sch_flat_laws.proofs.Document.ExpansionLemmas.{schema_stays}
use Rattle.sch_flat_laws.proofs.flat_schemas_stay.Goals as goal

pub returns : goal.returns
returns c = schema_stays
