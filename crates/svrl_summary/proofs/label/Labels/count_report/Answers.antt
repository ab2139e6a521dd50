-- The labels of one more are counted.
use Rattle.std.proofs.Common.{◌∙◌, ◌≡◌, List, ℕ, ap}
use Rattle.svrl_summary.specs.Labels.{counted_behind}
use Rattle.svrl_summary.specs.Summary.{labels_of_pattern}
use Rattle.svrl_summary.specs.inner.Counting.{shown}
use Rattle.svrl_summary.proofs.LabelLemmas.{counted-next}
use Rattle.svrl_summary.proofs.label.Labels.count_report.Goals as goal

pub loop-pattern-preserved : goal.loop-pattern-preserved
loop-pattern-preserved c = (
  counted-next (labels_of_pattern c.args.self.now.label) c.args.report.now.patterns c.loop-pattern.pattern-index c.pattern-item.result (rw c.as_slice-pattern-items.ensures at c.pattern-item.is) (rw c.as_slice-pattern-items.ensures at c.loop-pattern-test.true)
      (shown c.args.self.now.counts) (shown c.loop-pattern.self.counts) (shown c.count_pattern.new.self.counts) c.loop-pattern.invariant.0 (rw c.loop-pattern.invariant.1 at c.in_ok-count_pattern.ensures.counted),
  c.count_pattern.ensures.label ∙ c.loop-pattern.invariant.1,
)
