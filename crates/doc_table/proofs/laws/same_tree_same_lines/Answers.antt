-- Nodes at the same position are alike, and so begin and end with the same lines.
use Rattle.doc_table.proofs.SameTreeLemmas.{same-tree-same-lines}
use Rattle.doc_table.proofs.laws.same_tree_same_lines.Goals as goal

pub returns : goal.returns
returns c = same-tree-same-lines
