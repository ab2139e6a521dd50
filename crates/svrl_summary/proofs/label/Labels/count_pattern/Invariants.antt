-- The labels so far are counted.
use Rattle.std.proofs.Common.{◌≡◌, take}
use Rattle.std.specs.List.{flat_map}
use Rattle.svrl_summary.specs.Labels.{counted_behind}
use Rattle.svrl_summary.specs.Summary.{labels_of_rule}
use Rattle.svrl_summary.specs.inner.Counting.{shown}
use Rattle.svrl_summary.proofs.label.Labels.count_pattern.Given as goal

abbrev pub invariant-loop-fired : goal.invariant-loop-fired
invariant-loop-fired l = (shown l.self.counts ≡ counted_behind (shown l.initial.self.counts) (flat_map (labels_of_rule l.initial.self.label) (take l.fired-index l.pattern.fired))) × (l.self.label ≡ l.initial.self.label)
