-- The new attribute stands behind those of its element, before the kids; a table with a piece put in shows a forest again.
use Rattle.doc_table.proofs.Forests.{formed-of}
use Rattle.doc_table.proofs.TreeLaws.{well-formed}
use Rattle.doc_edits.specs.Changes.{gained, inserted}
use Rattle.doc_edits.proofs.GainLemmas.{gains-keep-trees}
use Rattle.doc_edits.proofs.InsertionTreeLemmas.{insertion}
use Rattle.doc_edits.proofs.laws.additions_keep_trees.Goals as goal

pub returns-clause-gains : goal.returns-clause-gains
returns-clause-gains c = λ T n name value form may. well-formed (gained T n name value) (gains-keep-trees T n name value (formed-of T form) may)

pub returns-clause-insertions : goal.returns-clause-insertions
returns-clause-insertions c = λ T p before P form piece may. well-formed (inserted T p before P) (insertion T p before P (formed-of T form) (formed-of P piece) may)
