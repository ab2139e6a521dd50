-- Nothing is held.
use Rattle.std.proofs.Common.{[]}
use Rattle.sch_flat.proofs.part_sizes.NsMeasured.size.Goals as goal

pub returns : goal.returns
returns c = c.element_size.ensures [] c.none.ensures
