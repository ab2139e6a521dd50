-- One that was not written whole leaves a front of all.
use Rattle.svrl_summary.specs.Lines.{label_line}
use Rattle.sch_io.proofs.Writes.{wrote_cut}
use Rattle.svrl_summary.proofs.writing.write_labels.Goals as goal

pub returns-in_err-write_label : goal.returns-in_err-write_label
returns-in_err-write_label g c =
    wrote_cut (label_line c.args.word.now) c.args.labels.now c.loop-counted.counted-index c.counted-item.result c.from_residual.result c.from_residual.ensures.0
    (rw c.as_slice-counted-items.ensures at c.counted-item.is) (rw c.as_slice-counted-items.ensures at c.loop-counted-test.true) c.loop-counted.invariant c.in_err-write_label.ensures
