-- The root is first in document order, and what is told below a node follows by how deep it can be below it.
use Rattle.tree_iso.proofs.HangingLemmas.{renumbered-hang}
use Rattle.tree_iso.proofs.laws.renumbered_trees_hang.Goals as goal

pub returns : goal.returns
returns c = renumbered-hang c.well_formed_is_enough.ensures
