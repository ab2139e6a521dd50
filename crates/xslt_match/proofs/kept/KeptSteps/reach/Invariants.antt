use Rattle.std.proofs.Common.{◌-◌, length}
use Rattle.doc_tree.specs.Table.{Contents}
use Rattle.xp_meaning.specs.Evaluation.{Lets}
use Rattle.xslt_match.specs.Kept.{IsKeptFor}
use Rattle.xslt_match.proofs.kept.KeptSteps.reach.Given as goal

abbrev pub invariant-loop-paths : goal.invariant-loop-paths
invariant-loop-paths l = (C : Contents) (L : Lets) → IsKeptFor C L l.fn.pattern l.fn.self → IsKeptFor C L l.fn.pattern l.self

abbrev pub decreases-loop-paths : goal.decreases-loop-paths
decreases-loop-paths l = length l.paths - length l.self.paths.items
