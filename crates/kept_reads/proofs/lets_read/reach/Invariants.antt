-- The units so far are as they were, and not too many.
use Rattle.std.proofs.Common.{◌≡◌, ℕ, ◌-◌, ◌≤◌, length}
use Rattle.kept_reads.specs.inner.LetsRead.{slots_at}
use Rattle.kept_reads.proofs.lets_read.reach.Given as goal

abbrev pub invariant-loop-lets : goal.invariant-loop-lets
invariant-loop-lets l = record {
  same : (place : ℕ) → slots_at l.lets.items place ≡ slots_at l.fn.lets.items place;
  short : length l.fn.lets.items ≤ l.count → length l.lets.items ≤ l.count;
}

abbrev pub decreases-loop-lets : goal.decreases-loop-lets
decreases-loop-lets l = l.count - length l.lets.items
