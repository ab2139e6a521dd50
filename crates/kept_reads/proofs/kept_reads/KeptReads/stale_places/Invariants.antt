-- The places so far are counted.
use Rattle.std.proofs.Common.{◌≡◌, ◌≤◌, count_by, is_none}
use Rattle.std.specs.List.{range_with_len}
use Rattle.kept_reads.specs.Reads.{reads_at}
use Rattle.kept_reads.proofs.kept_reads.KeptReads.stale_places.Given as goal

abbrev pub invariant-loop-place : goal.invariant-loop-place
invariant-loop-place l = record {
  counted : l.stale ≡ count_by (λ place. is_none (reads_at l.self.entries place)) (range_with_len 0 l.place);
  at_most : l.stale ≤ l.place;
}
