use Rattle.std.proofs.Common.{length}
use Rattle.doc_tree.specs.Walks.{ancestors}
use Rattle.kept_reads.proofs.kept_reads.KeptReads.+mark_names_above.Given as goal

-- how far the root is
abbrev pub decreases-mark_names_above : goal.decreases-mark_names_above
decreases-mark_names_above l = length (ancestors l.at.now.tree.now.nodes l.node)
