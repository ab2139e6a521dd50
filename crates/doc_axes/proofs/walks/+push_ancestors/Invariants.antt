use Rattle.std.proofs.Common.{length}
use Rattle.doc_tree.specs.Walks.{ancestors}
use Rattle.doc_axes.proofs.walks.+push_ancestors.Given as goal

abbrev pub decreases-push_ancestors : goal.decreases-push_ancestors
decreases-push_ancestors l = length (ancestors l.tree.now.nodes l.n)
