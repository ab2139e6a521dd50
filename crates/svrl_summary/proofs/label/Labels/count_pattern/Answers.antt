-- The labels of one more are counted.
use Rattle.std.proofs.Common.{◌∙◌, ◌≡◌, List, ℕ, ap}
use Rattle.svrl_summary.specs.Labels.{counted_behind}
use Rattle.svrl_summary.specs.Summary.{labels_of_rule}
use Rattle.svrl_summary.specs.inner.Counting.{shown}
use Rattle.svrl_summary.proofs.LabelLemmas.{counted-next}
use Rattle.svrl_summary.proofs.label.Labels.count_pattern.Goals as goal

pub loop-fired-preserved : goal.loop-fired-preserved
loop-fired-preserved c = (
  counted-next (labels_of_rule c.args.self.now.label) c.args.pattern.now.fired c.loop-fired.fired-index c.fired-item.result (rw c.as_slice-fired-items.ensures at c.fired-item.is) (rw c.as_slice-fired-items.ensures at c.loop-fired-test.true)
      (shown c.args.self.now.counts) (shown c.loop-fired.self.counts) (shown c.count_rule.new.self.counts) c.loop-fired.invariant.0 (rw c.loop-fired.invariant.1 at c.in_ok-count_rule.ensures.counted),
  c.count_rule.ensures.label ∙ c.loop-fired.invariant.1,
)
