use Rattle.std.proofs.Common.{length}
use Rattle.doc_tree.specs.Walks.{ancestors}
use Rattle.kept_reads.proofs.naming.+is_ancestor.Given as goal

-- how far the root is
abbrev pub decreases-is_ancestor : goal.decreases-is_ancestor
decreases-is_ancestor l = length (ancestors l.tree.now.nodes l.node)
