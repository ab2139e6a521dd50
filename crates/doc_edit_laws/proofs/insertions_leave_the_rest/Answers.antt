-- What the tree had stays but for what stands above the piece.
use Rattle.doc_table.proofs.Forests.{formed-of}
use Rattle.doc_edits.specs.Changes.{inserted}
use Rattle.doc_edit_laws.proofs.InsertionAgreement.{insertions-leave}
use Rattle.doc_edit_laws.proofs.insertions_leave_the_rest.Goals as goal

pub returns : goal.returns
returns c T p before P t f m =
    insertions-leave T p before P (formed-of T t) (formed-of P f) m (formed-of (inserted T p before P) (c.additions_keep_trees.ensures.insertions T p before P t f m))
