-- No texts meet where it goes, it is not the document element, and the step behind the path leads to it.
use Rattle.edit_undo_laws.proofs.InsertUndone.{inserts-are-undone}
use Rattle.edit_undo_laws.proofs.inserts_are_undone.Goals as goal

pub returns : goal.returns
returns c = inserts-are-undone c.edits_keep_trees.ensures c.insertions_are_undone.ensures
