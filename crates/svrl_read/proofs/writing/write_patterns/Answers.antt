-- One that was not written whole leaves a front of all.
use Rattle.svrl_read.specs.Lines.{pattern_lines}
use Rattle.sch_io.proofs.Writes.{wrote_cut}
use Rattle.svrl_read.proofs.writing.write_patterns.Goals as goal

pub returns-in_err-write_pattern : goal.returns-in_err-write_pattern
returns-in_err-write_pattern g c =
    wrote_cut pattern_lines c.args.patterns.now c.loop-pattern.pattern-index c.pattern-item.result c.from_residual.result c.from_residual.ensures.0
    (rw c.as_slice-pattern-items.ensures at c.pattern-item.is) (rw c.as_slice-pattern-items.ensures at c.loop-pattern-test.true) c.loop-pattern.invariant c.in_err-write_pattern.ensures
