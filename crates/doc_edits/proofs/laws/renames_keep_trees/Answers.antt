-- Another name of a node keeps the forest and the kinds, and no two attributes of an element get one name.
use Rattle.doc_table.proofs.Forests.{formed-of}
use Rattle.doc_table.proofs.TreeLaws.{well-formed}
use Rattle.doc_edits.specs.Changes.{renamed}
use Rattle.doc_edits.proofs.RenamingLemmas.{renames-keep-trees}
use Rattle.doc_edits.proofs.laws.renames_keep_trees.Goals as goal

pub returns : goal.returns
returns c = λ T n name form may. well-formed (renamed T n name) (renames-keep-trees T n name may (formed-of T form))
