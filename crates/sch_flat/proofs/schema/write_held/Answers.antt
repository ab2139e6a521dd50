-- One after another.
use Rattle.sch_flat.proofs.WritingLemmas.{in_order}
use Rattle.sch_flat.proofs.schema.write_held.Goals as goal

pub returns : goal.returns
returns c = in_order _ _ _ _ _ _ _ _ _ _ _ _ _ _ c.in_ok-write_title.ensures c.in_ok-all.ensures c.in_ok-all-2.ensures c.in_ok-all-3.ensures c.in_ok-all-4.ensures c.write_all_notes.ensures
