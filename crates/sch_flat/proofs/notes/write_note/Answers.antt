-- What is held at once.
use Rattle.sch_flat.proofs.WritingLemmas.{around_one}
use Rattle.sch_flat.proofs.notes.write_note.Goals as goal

pub returns : goal.returns
returns c = around_one _ _ _ _ _ _ _ _ c.in_ok-start.ensures c.in_ok-all.ensures c.end.ensures
