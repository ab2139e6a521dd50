use Rattle.std.proofs.Common.{◌≡◌, ◌++◌, length, map}
use Rattle.doc_tree.specs.Walks.{string_value_of}
use Rattle.xp_values.proofs.text_comparisons.push_texts.Given as goal

-- the texts so far, before those of the nodes that are left
abbrev pub invariant-loop-nodes : goal.invariant-loop-nodes
invariant-loop-nodes l = l.texts ++ map (string_value_of l.tree.nodes) l.nodes ≡ l.initial.texts ++ map (string_value_of l.tree.nodes) l.fn.nodes

abbrev pub decreases-loop-nodes : goal.decreases-loop-nodes
decreases-loop-nodes l = length l.nodes
