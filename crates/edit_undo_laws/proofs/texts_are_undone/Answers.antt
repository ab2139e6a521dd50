-- Kinds and kids stay, and the text was there before.
use Rattle.edit_undo_laws.proofs.TextUndone.{texts-are-undone}
use Rattle.edit_undo_laws.proofs.texts_are_undone.Goals as goal

pub returns : goal.returns
returns c = texts-are-undone
