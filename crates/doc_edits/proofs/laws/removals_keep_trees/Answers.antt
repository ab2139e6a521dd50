-- The forest is pruned, and what is left of it fits.
use Rattle.doc_table.proofs.Forests.{formed-of}
use Rattle.doc_table.proofs.TreeLaws.{well-formed}
use Rattle.doc_edits.specs.Changes.{removed}
use Rattle.doc_edits.proofs.RemovalLemmas.{removals-keep-trees}
use Rattle.doc_edits.proofs.laws.removals_keep_trees.Goals as goal

pub returns : goal.returns
returns c = λ T n form may. well-formed (removed T n) (removals-keep-trees T n (formed-of T form) may)
