-- The lets and the patterns so far are counted.
use Rattle.std.proofs.Common.{◌≡◌, ◌+◌, ◌*◌, ◌≤◌, count_by, is_none, length}
use Rattle.std.specs.List.{range_with_len, sum_by}
use Rattle.kept_reads.specs.Reads.{reads_at}
use Rattle.kept_reads.specs.Counting.{is_stale_node}
use Rattle.kept_units.proofs.kept_units.KeptUnits.stale_count.Given as goal

abbrev pub invariant-loop-p : goal.invariant-loop-p
invariant-loop-p l = record {
  counted : l.count ≡ count_by (λ slot. is_none (reads_at l.self.let_reads.entries slot)) (range_with_len 0 (length l.plan.lets))
      + sum_by (λ p. count_by (is_stale_node l.tree.nodes l.self.reads.entries l.patterns p) (range_with_len 0 (length l.tree.nodes)))
      (range_with_len 0 l.p);
  at_most : l.count ≤ 4294967295 + l.p * 4294967295;
}
