-- The tree after it is a tree, with the same links.
use Rattle.doc_table.proofs.Forests.{formed-of}
use Rattle.doc_edits.specs.Changes.{renamed}
use Rattle.doc_edit_laws.proofs.RenamingAgreement.{renaming-leaves}
use Rattle.doc_edit_laws.proofs.renames_leave_the_rest.Goals as goal

pub returns : goal.returns
returns c T n name t may = renaming-leaves T n name (formed-of T t) (formed-of (renamed T n name) (c.renames_keep_trees.ensures T n name t may)) may.named
