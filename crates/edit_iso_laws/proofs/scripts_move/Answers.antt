-- Each command in its turn.
use Rattle.edit_iso_laws.proofs.CommandLemmas.{scripts-move}
use Rattle.edit_iso_laws.proofs.scripts_move.Goals as goal

pub returns : goal.returns
returns c = scripts-move c.edits_keep_trees.ensures c.commands_move.ensures
