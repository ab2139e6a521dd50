use Rattle.std.proofs.Common.{length}
use Rattle.doc_tree.specs.Walks.{ancestors}
use Rattle.cell_covers.proofs.node_set.NodeSet.+climbs_to.Given as goal

-- how far the root is
abbrev pub decreases-climbs_to : goal.decreases-climbs_to
decreases-climbs_to l = length (ancestors l.tree.now.nodes l.n)
