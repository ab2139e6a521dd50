use Rattle.std.proofs.Common.{length}
use Rattle.doc_tree.specs.Walks.{ancestors}
use Rattle.doc_axes.proofs.walks.+push_preceding.Given as goal

abbrev pub decreases-push_preceding : goal.decreases-push_preceding
decreases-push_preceding l = length (ancestors l.tree.now.nodes l.n)
