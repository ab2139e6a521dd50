-- The root's kids keep their kinds; none that comes or goes among them is an element, and no text comes.
use Rattle.doc_edits.proofs.DocumentLemmas.{edits-keep-documents}
use Rattle.doc_edits.proofs.laws.edits_keep_documents.Goals as goal

pub returns : goal.returns
returns c = edits-keep-documents c.deletions_keep_trees.ensures
