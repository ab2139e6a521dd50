-- The line of the start, and its attributes.
use Rattle.sch_flat.proofs.SizeLemmas.{start_is}
use Rattle.sch_flat.proofs.lines.start_size.Goals as goal

pub returns : goal.returns
returns c = start_is _ _ _ _ _ c.saturating_add.ensures c.attributes_size.ensures c.plus.ensures
