-- The opening, then the end.
use Rattle.sch_io.proofs.Writes.{wrote_then}
use Rattle.pyx_write.proofs.elements.write_empty.Goals as goal

pub returns : goal.returns
returns g c = wrote_then c.in_ok-write_opening.ensures c.write_end.ensures
