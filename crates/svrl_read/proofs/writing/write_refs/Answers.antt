-- One that was not written whole leaves a front of all.
use Rattle.svrl_read.specs.Lines.{ref_lines}
use Rattle.sch_io.proofs.Writes.{wrote_cut}
use Rattle.svrl_read.proofs.writing.write_refs.Goals as goal

pub returns-in_err-write_ref : goal.returns-in_err-write_ref
returns-in_err-write_ref g c =
    wrote_cut ref_lines c.args.refs.now c.loop-reference.reference-index c.reference-item.result c.from_residual.result c.from_residual.ensures.0
    (rw c.as_slice-reference-items.ensures at c.reference-item.is) (rw c.as_slice-reference-items.ensures at c.loop-reference-test.true) c.loop-reference.invariant c.in_err-write_ref.ensures
