-- The nodes that are told of are at hand.
use Rattle.std.proofs.Common.{subst, sym}
use Rattle.sch_compiled.specs.Findings.{ToldInOrder}
use Rattle.svrl_out.proofs.report.write_report.Goals as goal

pub write_report_among-requires-clause-told : goal.write_report_among-requires-clause-told
write_report_among-requires-clause-told g c = subst (ToldInOrder c.args.tree.now.nodes c.args.found.now) (sym c.as_slice.ensures) c.in_ok-nodes.ensures
