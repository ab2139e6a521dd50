-- The nodes so far are counted.
use Rattle.std.proofs.Common.{◌≡◌, ◌≤◌, count_by}
use Rattle.std.specs.List.{range_with_len}
use Rattle.kept_reads.specs.Counting.{is_stale_node}
use Rattle.kept_reads.proofs.kept_reads.KeptReads.stale_nodes.Given as goal

abbrev pub invariant-loop-number : goal.invariant-loop-number
invariant-loop-number l = record {
  counted : l.count ≡ count_by (is_stale_node l.tree.nodes l.self.entries l.patterns l.p) (range_with_len 0 l.number);
  at_most : l.count ≤ l.number;
}
