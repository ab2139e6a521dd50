use Rattle.std.proofs.Common.{◌≤◌, drop, length}
use Rattle.xp_typed_tree.specs.TypedView.{paths_seen}
use Rattle.xslt_match.specs.inner.Refused.{PathsRefuse}
use Rattle.xslt_match.proofs.refusing.levels_of_paths.Given as goal

abbrev pub invariant-loop-left : goal.invariant-loop-left
invariant-loop-left l = record {
  within : l.left ≤ length l.paths;
  refuse : PathsRefuse l.tree (paths_seen (drop l.left l.paths)) l.fn.n l.levels;
}

abbrev pub decreases-loop-left : goal.decreases-loop-left
decreases-loop-left l = l.left
