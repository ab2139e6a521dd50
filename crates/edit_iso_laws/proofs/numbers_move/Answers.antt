-- A value makes a number where no attribute has its name, in both.
use Rattle.edit_iso_laws.proofs.RefusalLemmas.{numbers-move}
use Rattle.edit_iso_laws.proofs.numbers_move.Goals as goal

pub returns : goal.returns
returns c = numbers-move c.renumbered_trees_hang.ensures c.same_trees_are_renumbered.ensures c.paths_move.ensures
