use Rattle.std.proofs.Common.{length}
use Rattle.doc_table.specs.Walks.{ancestors}
use Rattle.doc_tree.proofs.tree.Tree.+nearest.Given as goal

-- how far the root is
abbrev pub decreases-nearest : goal.decreases-nearest
decreases-nearest l = length (ancestors l.self.now.nodes l.n)
