-- The schema breaks a rule on references or sizes, or is the one without abstract parts.
use Rattle.sch_loading.proofs.SchemaLemmas.{goes_to_flat, halts_at_reference}
use Rattle.sch_loading.proofs.schema.flat_of.Goals as goal

pub returns-in-Ok-clause-ends : goal.returns-in-Ok-clause-ends
returns-in-Ok-clause-ends c = goes_to_flat c.args.tree.now.nodes c.args.raw c.in-Ok.flat c.in-Ok.ensures.accepted c.in-Ok.ensures.expanded

pub returns-in-Err-clause-ends : goal.returns-in-Err-clause-ends
returns-in-Err-clause-ends c = halts_at_reference c.args.tree.now.nodes c.args.raw c.in-Err.error c.in-Err.ensures.refused c.refused.result c.refused.ensures.refusal
