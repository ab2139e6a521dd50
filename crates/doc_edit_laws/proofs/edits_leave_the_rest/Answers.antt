-- Each edit leaves a tree, and agreement composes.
use Rattle.doc_edit_laws.proofs.AlongLemmas.{along}
use Rattle.doc_edit_laws.proofs.edits_leave_the_rest.Goals as goal

pub returns : goal.returns
returns c = along c.agreement_composes.ensures c.sayings_keep_trees.ensures c.renames_keep_trees.ensures c.removals_keep_trees.ensures c.deletions_keep_trees.ensures
    c.additions_keep_trees.ensures.gains c.additions_keep_trees.ensures.insertions
