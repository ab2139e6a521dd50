-- The left text gives back what the node and the right one were taken from.
use Rattle.doc_undo_laws.proofs.MergeUndone.{merges-are-undone}
use Rattle.doc_undo_laws.proofs.merges_are_undone.Goals as goal

pub returns : goal.returns
returns c = merges-are-undone
