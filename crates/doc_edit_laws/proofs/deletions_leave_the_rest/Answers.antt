-- At most two nodes are lost, and then one text says both.
use Rattle.doc_edit_laws.proofs.DeletionAgreement.{deletions-leave}
use Rattle.doc_edit_laws.proofs.deletions_leave_the_rest.Goals as goal

pub returns : goal.returns
returns c = deletions-leave c.deletions_keep_trees.ensures
