use Rattle.std.proofs.Common.{◌-◌, ◌≤◌, filter, length, max, take}
use Rattle.doc_axes.specs.NodeTests.{passes}
use Rattle.doc_axes.specs.Judging.{IsJudged}
use Rattle.doc_axes.specs.inner.Lending.{lent_nodes}
use Rattle.doc_axes.specs.inner.Seeing.{EndsPassing, Tells}
use Rattle.doc_axes.proofs.placed.at_place.Given as goal

abbrev pub decreases-loop-lent : goal.decreases-loop-lent
decreases-loop-lent l = length (lent_nodes l.fn.lent) - l.next

abbrev pub invariant-loop-lent : goal.invariant-loop-lent
invariant-loop-lent l = record {
  told : Tells l.fn.place (filter (passes l.tree.nodes l.fn.axis l.test) (take l.next (lent_nodes l.fn.lent))) l.seen;
  few : l.seen.count ≤ l.next;
  within : l.next ≤ length (lent_nodes l.fn.lent);
  judged : IsJudged l.tree.names l.test l.judged;
  last : max l.fn.place 1 ≤ l.seen.count → EndsPassing (passes l.tree.nodes l.fn.axis l.test) l.next (lent_nodes l.fn.lent);
}
