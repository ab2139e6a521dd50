-- Nodes at the same position are alike, and a number without a node goes to such a number.
use Rattle.tree_iso.proofs.MovingLemmas.{same-renumbered}
use Rattle.tree_iso.proofs.laws.same_trees_are_renumbered.Goals as goal

pub returns : goal.returns
returns c = same-renumbered c.well_formed_is_enough.ensures
