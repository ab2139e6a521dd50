-- The way up gets shorter.
use Rattle.std.proofs.Common.{length}
use Rattle.doc_tree.specs.Walks.{ancestors}
use Rattle.doc_locations.proofs.locations.+push_steps.Given as goal

abbrev pub decreases-push_steps : goal.decreases-push_steps
decreases-push_steps l = length (ancestors l.tree.now.nodes l.n)
