-- Of an attribute more or less only its element's list tells.
use Rattle.doc_edit_laws.proofs.AttributeAgreement.{attributes-leave}
use Rattle.doc_edit_laws.proofs.attributes_leave_the_rest.Goals as goal

pub returns : goal.returns
returns c = attributes-leave c.additions_keep_trees.ensures.gains c.removals_keep_trees.ensures
