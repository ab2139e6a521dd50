-- The way up gets shorter.
use Rattle.std.proofs.Common.{length}
use Rattle.doc_tree.specs.Walks.{ancestors}
use Rattle.doc_locations.proofs.places.+count_way.Given as goal

abbrev pub decreases-count_way : goal.decreases-count_way
decreases-count_way l = length (ancestors l.tree.now.nodes l.n)
