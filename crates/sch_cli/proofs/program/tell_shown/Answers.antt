-- The line of a fault is told where it is written.
use Rattle.sch_cli.proofs.RunLemmas.{told_fault}
use Rattle.sch_cli.proofs.program.tell_shown.Goals as goal

pub returns-in-Fault : goal.returns-in-Fault
returns-in-Fault g c = told_fault _ _ c.args.last c.write_all.result c.in-Fault.is c.write_all.ensures
