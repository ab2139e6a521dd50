-- One that was not written whole leaves a front of all.
use Rattle.svrl_read.specs.Lines.{prefix_lines}
use Rattle.sch_io.proofs.Writes.{wrote_cut}
use Rattle.svrl_read.proofs.writing.write_prefixes.Goals as goal

pub returns-in_err-write_prefix : goal.returns-in_err-write_prefix
returns-in_err-write_prefix g c =
    wrote_cut prefix_lines c.args.prefixes.now c.loop-prefix.prefix-index c.prefix-item.result c.from_residual.result c.from_residual.ensures.0
    (rw c.as_slice-prefix-items.ensures at c.prefix-item.is) (rw c.as_slice-prefix-items.ensures at c.loop-prefix-test.true) c.loop-prefix.invariant c.in_err-write_prefix.ensures
