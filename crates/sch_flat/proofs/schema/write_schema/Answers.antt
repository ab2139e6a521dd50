-- The document element round what it holds.
use Rattle.sch_flat.proofs.WritingLemmas.{around_one}
use Rattle.sch_flat.proofs.schema.write_schema.Goals as goal

pub returns : goal.returns
returns c = around_one _ _ _ _ _ _ _ _ c.in_ok-start.ensures c.in_ok-write_held.ensures c.end.ensures
