use Rattle.std.proofs.Common.{length}
use Rattle.doc_axes.proofs.sets.+ordered.Given as goal

abbrev pub decreases-ordered : goal.decreases-ordered
decreases-ordered l = length l.nodes.now
