-- One line.
use Rattle.sch_flat.proofs.SizeLemmas.{attr_is}
use Rattle.sch_flat.proofs.lines.attr_size.Goals as goal

pub returns : goal.returns
returns c value h = attr_is (record { name = c.args.name.now; value = value }) _ _ _ _ c.saturating_add.ensures c.saturating_add-2.ensures c.attr_nodes.ensures h
