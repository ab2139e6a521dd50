-- The tree says a report, or has a first fault.
use Rattle.sch_loading.proofs.ReportLemmas.{goes_to_report, halts_at_fault}
use Rattle.sch_loading.proofs.report.report_of.Goals as goal

pub returns-in-Ok-clause-ends : goal.returns-in-Ok-clause-ends
returns-in-Ok-clause-ends c = goes_to_report c.args.tree.now.nodes c.in-Ok.report c.in-Ok.ensures.accepted c.in-Ok.ensures.read

pub returns-in-Err-clause-ends : goal.returns-in-Err-clause-ends
returns-in-Err-clause-ends c = halts_at_fault c.args.tree.now.nodes c.in-Err.error c.in-Err.ensures.refused c.refused.result c.refused.ensures.refusal
