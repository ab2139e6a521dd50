-- One after the other.
use Rattle.sch_flat.proofs.WritingLemmas.{two_in_order}
use Rattle.sch_flat.proofs.schema.write_all_notes.Goals as goal

pub returns : goal.returns
returns c = two_in_order _ _ _ _ _ _ c.in_ok-write_notes.ensures c.write_notes-2.ensures
