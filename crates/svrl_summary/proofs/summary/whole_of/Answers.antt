-- One pattern more is counted.
use Rattle.svrl_summary.specs.Summary.{tally_of}
use Rattle.svrl_summary.proofs.TallyLemmas.{sum-next}
use Rattle.svrl_summary.proofs.summary.whole_of.Goals as goal

pub loop-pattern-preserved : goal.loop-pattern-preserved
loop-pattern-preserved c =
    sum-next tally_of c.args.report.now.patterns c.loop-pattern.pattern-index c.pattern-item.result (rw c.as_slice-pattern-items.ensures at c.pattern-item.is) (rw c.as_slice-pattern-items.ensures at c.loop-pattern-test.true)
    c.loop-pattern.whole c.add.new.self c.in_ok-tally_of.field-0 c.loop-pattern.invariant c.in_ok-tally_of.ensures c.in_ok-add.ensures.fired c.in_ok-add.ensures.asserts c.in_ok-add.ensures.reports
