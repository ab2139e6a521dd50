-- The tree after it is a tree, with the same links.
use Rattle.doc_table.proofs.Forests.{formed-of}
use Rattle.doc_edits.specs.Changes.{said}
use Rattle.doc_edit_laws.proofs.SayingAgreement.{saying-leaves}
use Rattle.doc_edit_laws.proofs.sayings_leave_the_rest.Goals as goal

pub returns : goal.returns
returns c T n new t may = saying-leaves T n new (formed-of T t) (formed-of (said T n new) (c.sayings_keep_trees.ensures T n new t may))
