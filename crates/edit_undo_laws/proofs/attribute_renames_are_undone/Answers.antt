-- The new name means it, and its own name means no other.
use Rattle.edit_undo_laws.proofs.AttributeRenamingUndone.{attribute-renames-are-undone}
use Rattle.edit_undo_laws.proofs.attribute_renames_are_undone.Goals as goal

pub returns : goal.returns
returns c = attribute-renames-are-undone c.qnames_split.ensures
