-- What is held in two parts.
use Rattle.sch_flat.proofs.WritingLemmas.{around_two}
use Rattle.sch_flat.proofs.parts.FlatPatternInDocument.write.Goals as goal

pub returns : goal.returns
returns c = around_two _ _ _ _ _ _ _ _ _ _ c.in_ok-start.ensures c.in_ok-all.ensures c.in_ok-all-2.ensures c.end.ensures
