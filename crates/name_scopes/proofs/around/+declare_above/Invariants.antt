use Rattle.std.proofs.Common.{length}
use Rattle.doc_tree.specs.Walks.{ancestors}
use Rattle.name_scopes.proofs.around.+declare_above.Given as goal

-- how far the root is
abbrev pub decreases-declare_above : goal.decreases-declare_above
decreases-declare_above l = length (ancestors l.tree.now.nodes l.n)
