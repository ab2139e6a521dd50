-- Paths and scopes stay, and its own name is in scope.
use Rattle.edit_undo_laws.proofs.RenamingUndone.{renames-are-undone}
use Rattle.edit_undo_laws.proofs.renames_are_undone.Goals as goal

pub returns : goal.returns
returns c = renames-are-undone c.qnames_split.ensures
