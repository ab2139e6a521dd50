-- The line of the whole report, then the others.
use Rattle.sch_io.proofs.Writes.{wrote_then}
use Rattle.svrl_summary.proofs.writing.write_summary.Goals as goal

pub returns : goal.returns
returns g c = wrote_then (rw c.len.ensures at c.in_ok-write_whole.ensures) c.write_held.ensures
