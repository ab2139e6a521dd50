-- Its events are a fragment against which nothing speaks at its place.
use Rattle.edit_undo_laws.proofs.DeletingUndone.{lone-deletions-are-undone}
use Rattle.edit_undo_laws.proofs.lone_deletions_are_undone.Goals as goal

pub returns : goal.returns
returns c = lone-deletions-are-undone c.deletions_are_undone.ensures c.fragments_have_pieces.ensures c.subtrees_are_fragments.ensures
