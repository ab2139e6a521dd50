-- A number has the same position among the numbers as its image among their images.
use Rattle.tree_iso.proofs.MovingLemmas.{renumbered-same}
use Rattle.tree_iso.proofs.laws.renumbered_trees_are_same.Goals as goal

pub returns : goal.returns
returns c = renumbered-same
