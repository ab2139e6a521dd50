-- The piece stands where the node stood, and has its lines.
use Rattle.doc_undo_laws.proofs.DeletionUndone.{deletions-are-undone}
use Rattle.doc_undo_laws.proofs.deletions_are_undone.Goals as goal

pub returns : goal.returns
returns c = deletions-are-undone
