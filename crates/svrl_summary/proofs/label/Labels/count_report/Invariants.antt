-- The labels so far are counted.
use Rattle.std.proofs.Common.{◌≡◌, take}
use Rattle.std.specs.List.{flat_map}
use Rattle.svrl_summary.specs.Labels.{counted_behind}
use Rattle.svrl_summary.specs.Summary.{labels_of_pattern}
use Rattle.svrl_summary.specs.inner.Counting.{shown}
use Rattle.svrl_summary.proofs.label.Labels.count_report.Given as goal

abbrev pub invariant-loop-pattern : goal.invariant-loop-pattern
invariant-loop-pattern l = (shown l.self.counts ≡ counted_behind (shown l.initial.self.counts) (flat_map (labels_of_pattern l.initial.self.label) (take l.pattern-index l.report.patterns))) × (l.self.label ≡ l.initial.self.label)
