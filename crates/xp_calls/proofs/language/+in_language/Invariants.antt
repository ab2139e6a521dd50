use Rattle.std.proofs.Common.{length}
use Rattle.doc_tree.specs.Walks.{ancestors}
use Rattle.xp_calls.proofs.language.+in_language.Given as goal

abbrev pub decreases-in_language : goal.decreases-in_language
decreases-in_language l = length (ancestors l.tree.now.nodes l.n)
