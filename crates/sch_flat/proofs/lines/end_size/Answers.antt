-- One line.
use Rattle.sch_flat.proofs.SizeLemmas.{end_is}
use Rattle.sch_flat.proofs.lines.end_size.Goals as goal

pub returns : goal.returns
returns c = end_is c.args.name.now _ c.saturating_add.ensures
