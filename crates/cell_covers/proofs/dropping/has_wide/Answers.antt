-- The list holds what the set does.
use Rattle.std.proofs.Common.{◌∙◌}
use Rattle.cell_covers.proofs.HeldLemmas.{wide-told}
use Rattle.cell_covers.proofs.dropping.has_wide.Goals as goal

pub returns : goal.returns
returns c = c.is_wide_among.ensures ∙ wide-told c.args.reads.now.cells c.cells.result.now c.cells.ensures
