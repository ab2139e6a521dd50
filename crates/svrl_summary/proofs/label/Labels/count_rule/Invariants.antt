-- The labels so far are counted.
use Rattle.std.proofs.Common.{◌≡◌, take}
use Rattle.std.specs.List.{flat_map}
use Rattle.svrl_summary.specs.Labels.{counted_behind}
use Rattle.svrl_summary.specs.Summary.{label_of, of_option}
use Rattle.svrl_summary.specs.inner.Counting.{shown}
use Rattle.svrl_summary.proofs.label.Labels.count_rule.Given as goal

abbrev pub invariant-loop-finding : goal.invariant-loop-finding
invariant-loop-finding l =
    (shown l.self.counts ≡ counted_behind (shown l.initial.self.counts) (flat_map (λ finding. of_option (label_of l.initial.self.label finding)) (take l.finding-index l.fired.findings)))
    × (l.self.label ≡ l.initial.self.label)
