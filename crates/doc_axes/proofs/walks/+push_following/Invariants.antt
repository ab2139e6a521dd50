use Rattle.std.proofs.Common.{length}
use Rattle.doc_tree.specs.Walks.{ancestors}
use Rattle.doc_axes.proofs.walks.+push_following.Given as goal

abbrev pub decreases-push_following : goal.decreases-push_following
decreases-push_following l = length (ancestors l.tree.now.nodes l.n)
