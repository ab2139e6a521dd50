-- The watches so far are counted.
use Rattle.std.proofs.Common.{◌≡◌, ◌≤◌, count_by}
use Rattle.std.specs.List.{range_with_len}
use Rattle.xp_watch.specs.Kept.{is_stale}
use Rattle.xp_watch.specs.inner.Held.{held_by}
use Rattle.xp_watch.proofs.kept.KeptWatches.stale_count.Given as goal

abbrev pub invariant-loop-k : goal.invariant-loop-k
invariant-loop-k l = record {
  counted : l.stale ≡ count_by (is_stale (held_by l.self)) (range_with_len 0 l.k);
  at_most : l.stale ≤ l.k;
}
