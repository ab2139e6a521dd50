use Rattle.std.proofs.Common.{◌≡◌, ◌-◌, ◌≤◌, filter, length, take}
use Rattle.doc_axes.specs.NodeTests.{passes}
use Rattle.doc_axes.specs.Judging.{IsJudged}
use Rattle.doc_axes.proofs.placed.count_passing.Given as goal

abbrev pub decreases-loop-place : goal.decreases-loop-place
decreases-loop-place l = length l.nodes - l.place

abbrev pub invariant-loop-place : goal.invariant-loop-place
invariant-loop-place l = record {
  within : l.place ≤ length l.nodes;
  few : l.count ≤ l.place;
  counted : l.count ≡ length (filter (passes l.tree.nodes l.fn.axis l.test) (take l.place l.nodes));
  judged : IsJudged l.tree.names l.test l.judged;
}
