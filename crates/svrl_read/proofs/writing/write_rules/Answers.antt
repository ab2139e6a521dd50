-- One that was not written whole leaves a front of all.
use Rattle.svrl_read.specs.Lines.{fired_lines}
use Rattle.sch_io.proofs.Writes.{wrote_cut}
use Rattle.svrl_read.proofs.writing.write_rules.Goals as goal

pub returns-in_err-write_rule : goal.returns-in_err-write_rule
returns-in_err-write_rule g c =
    wrote_cut fired_lines c.args.rules.now c.loop-fired.fired-index c.fired-item.result c.from_residual.result c.from_residual.ensures.0
    (rw c.as_slice-fired-items.ensures at c.fired-item.is) (rw c.as_slice-fired-items.ensures at c.loop-fired-test.true) c.loop-fired.invariant c.in_err-write_rule.ensures
