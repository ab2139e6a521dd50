-- At most two nodes are removed, and then one text says both.
use Rattle.doc_table.proofs.Forests.{formed-of}
use Rattle.doc_table.proofs.TreeLaws.{well-formed}
use Rattle.doc_edits.specs.Changes.{deleted}
use Rattle.doc_edits.proofs.DeletionLemmas.{deletions-keep-trees}
use Rattle.doc_edits.proofs.laws.deletions_keep_trees.Goals as goal

pub returns : goal.returns
returns c = λ T n form. well-formed (deleted T n) (deletions-keep-trees c.sayings_keep_trees.ensures T n (formed-of T form))
