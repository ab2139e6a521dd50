-- The lines tell the forest but for its numbers, and the positions of its numbers are told by its shape.
use Rattle.doc_table.proofs.SameTreeLemmas.{same-lines-same-tree}
use Rattle.doc_table.proofs.laws.same_lines_same_tree.Goals as goal

pub returns : goal.returns
returns c = same-lines-same-tree
