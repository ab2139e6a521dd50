use Rattle.std.proofs.Common.{◌≡◌, ◌≤◌, ◌-◌, Some}
use Rattle.xslt_match.specs.Names.{ancestor_at}
use Rattle.xslt_match.proofs.names.ancestor_at.Given as goal

abbrev pub invariant-loop-k : goal.invariant-loop-k
invariant-loop-k l = record {
  within : l.k ≤ l.fn.levels;
  at : ancestor_at l.tree.nodes l.k l.fn.n ≡ Some l.m;
}

abbrev pub decreases-loop-k : goal.decreases-loop-k
decreases-loop-k l = l.fn.levels - l.k
