use Rattle.std.proofs.Common.{length}
use Rattle.doc_tree.specs.Walks.{ancestors}
use Rattle.xslt_match.proofs.names.+read_upwards.Given as goal

abbrev pub decreases-read_upwards : goal.decreases-read_upwards
decreases-read_upwards l = length (ancestors l.tree.now.nodes l.m)
