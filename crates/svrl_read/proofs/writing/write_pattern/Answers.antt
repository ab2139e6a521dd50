-- The pattern, then its rules.
use Rattle.sch_io.proofs.Writes.{wrote_then}
use Rattle.svrl_read.proofs.writing.write_pattern.Goals as goal

pub returns : goal.returns
returns g c = wrote_then c.in_ok-write_empty.ensures c.write_rules.ensures
