-- The rule, then its findings.
use Rattle.sch_io.proofs.Writes.{wrote_then}
use Rattle.svrl_read.proofs.writing.write_rule.Goals as goal

pub returns : goal.returns
returns g c = wrote_then c.in_ok-write_rule_element.ensures c.write_findings.ensures
