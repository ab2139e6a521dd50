-- Just the new numbers go.
use Rattle.doc_undo_laws.proofs.InsertionUndone.{insertions-are-undone}
use Rattle.doc_undo_laws.proofs.insertions_are_undone.Goals as goal

pub returns : goal.returns
returns c = insertions-are-undone
