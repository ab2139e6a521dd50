use Rattle.std.proofs.Common.{◌≡◌, ◌++◌, filter, take}
use Rattle.doc_axes.specs.NodeTests.{passes}
use Rattle.doc_axes.specs.Judging.{IsJudged}
use Rattle.doc_axes.specs.inner.Lending.{lent_nodes}
use Rattle.doc_axes.proofs.passing.push_those.Given as goal

abbrev pub invariant-loop-place : goal.invariant-loop-place
invariant-loop-place l = record {
  found : l.list ≡ l.initial.list ++ filter (passes l.tree.nodes l.fn.axis l.test) (take l.place (lent_nodes l.fn.lent));
  judged : IsJudged l.tree.names l.test l.judged;
}
