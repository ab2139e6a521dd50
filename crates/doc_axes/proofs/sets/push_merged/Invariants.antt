-- What is listed and the union of what is left make the union.
use Rattle.std.proofs.Common.{◌≡◌, ◌+◌, ◌++◌, length}
use Rattle.doc_axes.specs.Sets.{IsNodeSet, union}
use Rattle.doc_axes.proofs.sets.push_merged.Given as goal

abbrev pub invariant-loop-next : goal.invariant-loop-next
invariant-loop-next l = record {
  whole : l.list ++ union l.tree.nodes l.rest_a l.rest_b ≡ l.initial.list ++ union l.tree.nodes l.fn.a l.fn.b;
  a_set : IsNodeSet l.tree.nodes l.rest_a;
  b_set : IsNodeSet l.tree.nodes l.rest_b;
}

abbrev pub decreases-loop-next : goal.decreases-loop-next
decreases-loop-next l = length l.rest_a + length l.rest_b
