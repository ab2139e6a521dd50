-- The line tells the location of the node.
use Rattle.sch_loading.proofs.SchemaLemmas.{refusal_told}
use Rattle.sch_loading.proofs.schema.refused.Goals as goal

pub returns-in-Ok-clause-refusal : goal.returns-in-Ok-clause-refusal
returns-in-Ok-clause-refusal c = refusal_told c.args.tree.now.nodes c.args.error c.in-Fault.fault c.in-Ok.location c.in-Fault.is c.in-Ok.ensures
