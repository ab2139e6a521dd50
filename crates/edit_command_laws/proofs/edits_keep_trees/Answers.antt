-- The piece of a fragment has its size and its depths, so that it may come where the fragment may.
use Rattle.edit_command_laws.proofs.TreesKept.{trees-kept}
use Rattle.edit_command_laws.proofs.edits_keep_trees.Goals as goal

pub returns : goal.returns
returns c =
    trees-kept c.sayings_keep_trees.ensures c.renames_keep_trees.ensures c.removals_keep_trees.ensures c.deletions_keep_trees.ensures c.additions_keep_trees.ensures.gains
    c.additions_keep_trees.ensures.insertions c.edits_keep_documents.ensures
