-- The way up gets shorter.
use Rattle.std.proofs.Common.{length}
use Rattle.doc_tree.specs.Walks.{ancestors}
use Rattle.doc_locations.proofs.places.+siblings_on_way.Given as goal

abbrev pub decreases-siblings_on_way : goal.decreases-siblings_on_way
decreases-siblings_on_way l = length (ancestors l.tree.now.nodes l.n)
