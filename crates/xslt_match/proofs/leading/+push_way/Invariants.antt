use Rattle.std.proofs.Common.{length}
use Rattle.doc_tree.specs.Walks.{ancestors}
use Rattle.xslt_match.proofs.leading.+push_way.Given as goal

abbrev pub decreases-push_way : goal.decreases-push_way
decreases-push_way l = length (ancestors l.tree.now.nodes l.n)
