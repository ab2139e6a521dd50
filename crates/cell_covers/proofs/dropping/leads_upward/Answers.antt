-- The list holds what the set does.
use Rattle.std.proofs.Common.{◌∙◌}
use Rattle.cell_covers.proofs.HeldLemmas.{upward-told}
use Rattle.cell_covers.proofs.dropping.leads_upward.Goals as goal

pub returns : goal.returns
returns c = c.has_upward.ensures ∙ upward-told c.args.reads.now.names c.names.result.now c.names.ensures
