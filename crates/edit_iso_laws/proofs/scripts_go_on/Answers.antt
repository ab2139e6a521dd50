-- Each command in its turn, with as many numbers as it made.
use Rattle.edit_iso_laws.proofs.GoingOnLemmas.{scripts-go-on}
use Rattle.edit_iso_laws.proofs.scripts_go_on.Goals as goal

pub returns : goal.returns
returns c = scripts-go-on c.edits_keep_trees.ensures c.edits_make_trees.ensures c.commands_move.ensures c.refusals_move.ensures c.numbers_move.ensures
