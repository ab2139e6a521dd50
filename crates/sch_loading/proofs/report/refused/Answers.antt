-- The line tells the location of the element.
use Rattle.sch_loading.proofs.ReportLemmas.{fault_told}
use Rattle.sch_loading.proofs.report.refused.Goals as goal

pub returns-in-Ok-clause-refusal : goal.returns-in-Ok-clause-refusal
returns-in-Ok-clause-refusal c = fault_told c.args.tree.now.nodes c.args.error c.in-Fault.fault c.in-Ok.location c.in-Fault.is c.in-Ok.ensures
