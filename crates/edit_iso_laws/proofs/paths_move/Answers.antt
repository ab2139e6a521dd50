-- Kids of a kind, ways up and attributes go where their numbers go.
use Rattle.edit_iso_laws.proofs.PathLemmas.{paths-move}
use Rattle.edit_iso_laws.proofs.paths_move.Goals as goal

pub returns : goal.returns
returns c = paths-move c.renumbered_trees_hang.ensures
