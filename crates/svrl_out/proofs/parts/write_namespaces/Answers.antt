-- A prefix that was not written whole leaves a front of all.
use Rattle.svrl_out.specs.Report.{ns_lines}
use Rattle.sch_io.proofs.Writes.{wrote_cut}
use Rattle.svrl_out.proofs.parts.write_namespaces.Goals as goal

pub returns-in_err-write_ns : goal.returns-in_err-write_ns
returns-in_err-write_ns g c =
    wrote_cut ns_lines c.args.namespaces.now c.loop-ns.ns-index c.ns-item.result c.from_residual.result c.from_residual.ensures.0
    (rw c.as_slice-ns-items.ensures at c.ns-item.is) (rw c.as_slice-ns-items.ensures at c.loop-ns-test.true) c.loop-ns.invariant c.in_err-write_ns.ensures
