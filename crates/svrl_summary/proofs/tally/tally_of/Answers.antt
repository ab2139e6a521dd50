-- One rule more is counted.
use Rattle.svrl_summary.specs.Summary.{tally_of_rule}
use Rattle.svrl_summary.proofs.TallyLemmas.{sum-next}
use Rattle.svrl_summary.proofs.tally.tally_of.Goals as goal

pub loop-fired-preserved : goal.loop-fired-preserved
loop-fired-preserved c =
    sum-next tally_of_rule c.args.pattern.now.fired c.loop-fired.fired-index c.fired-item.result (rw c.as_slice-fired-items.ensures at c.fired-item.is) (rw c.as_slice-fired-items.ensures at c.loop-fired-test.true)
    c.loop-fired.tally c.add.new.self c.tally_of_rule.result c.loop-fired.invariant c.tally_of_rule.ensures c.in_ok-add.ensures.fired c.in_ok-add.ensures.asserts c.in_ok-add.ensures.reports
