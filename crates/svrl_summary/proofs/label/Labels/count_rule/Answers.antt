-- The label of one finding more is counted.
use Rattle.std.proofs.Common.{◌∙◌, ◌≡◌, List, ℕ, ap}
use Rattle.svrl_summary.specs.Labels.{counted_behind}
use Rattle.svrl_summary.specs.Summary.{label_of, of_option}
use Rattle.svrl_summary.specs.inner.Counting.{shown}
use Rattle.svrl_summary.proofs.LabelLemmas.{counted-next}
use Rattle.svrl_summary.proofs.label.Labels.count_rule.Goals as goal

pub loop-finding-preserved : goal.loop-finding-preserved
loop-finding-preserved c = (
  counted-next (λ finding. of_option (label_of c.args.self.now.label finding)) c.args.fired.now.findings c.loop-finding.finding-index c.finding-item.result (rw c.as_slice-finding-items.ensures at c.finding-item.is) (rw c.as_slice-finding-items.ensures at c.loop-finding-test.true)
      (shown c.args.self.now.counts) (shown c.loop-finding.self.counts) (shown c.count_finding.new.self.counts) c.loop-finding.invariant.0 (rw c.loop-finding.invariant.1 at c.in_ok-count_finding.ensures.counted),
  c.count_finding.ensures.label ∙ c.loop-finding.invariant.1,
)
