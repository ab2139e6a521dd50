-- One that was not written whole leaves a front of all.
use Rattle.svrl_read.specs.Lines.{finding_lines}
use Rattle.sch_io.proofs.Writes.{wrote_cut}
use Rattle.svrl_read.proofs.writing.write_findings.Goals as goal

pub returns-in_err-write_finding : goal.returns-in_err-write_finding
returns-in_err-write_finding g c =
    wrote_cut finding_lines c.args.findings.now c.loop-finding.finding-index c.finding-item.result c.from_residual.result c.from_residual.ensures.0
    (rw c.as_slice-finding-items.ensures at c.finding-item.is) (rw c.as_slice-finding-items.ensures at c.loop-finding-test.true) c.loop-finding.invariant c.in_err-write_finding.ensures
