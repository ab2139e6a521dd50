-- The tree without the right text is that to which the node comes again, and so the text comes there as it would before.
use Rattle.edit_undo_laws.proofs.MergingUndone.{merging-deletions-are-undone}
use Rattle.edit_undo_laws.proofs.merging_deletions_are_undone.Goals as goal

pub returns : goal.returns
returns c =
    merging-deletions-are-undone c.qnames_split.ensures c.deletions_are_undone.ensures c.fragments_have_pieces.ensures c.subtrees_are_fragments.ensures c.edits_keep_scope.ensures.deletions
    c.edits_keep_trees.ensures c.scripts_go_on.ensures
