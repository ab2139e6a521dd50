-- Another text of a node keeps the forest, the kinds and the names.
use Rattle.doc_table.proofs.Forests.{formed-of}
use Rattle.doc_table.proofs.TreeLaws.{well-formed}
use Rattle.doc_edits.specs.Changes.{said}
use Rattle.doc_edits.proofs.SayingLemmas.{sayings-keep-trees}
use Rattle.doc_edits.proofs.laws.sayings_keep_trees.Goals as goal

pub returns : goal.returns
returns c = λ T n new form may. well-formed (said T n new) (sayings-keep-trees T n new (formed-of T form) may)
