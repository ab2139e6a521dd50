-- Those so far are copied; the others are left.
use Rattle.std.proofs.Common.{◌≡◌, ◌++◌, map}
use Rattle.svrl_summary.specs.Summary.{as_counts}
use Rattle.svrl_summary.specs.inner.Counting.{shown}
use Rattle.svrl_summary.proofs.label.Labels.copied.Given as goal

abbrev pub invariant-loop-text : goal.invariant-loop-text
invariant-loop-text l = l.counts ++ as_counts (map (λ entry. (entry.0.now, entry.1)) l.text-iterator) ≡ as_counts (shown l.self.counts)
