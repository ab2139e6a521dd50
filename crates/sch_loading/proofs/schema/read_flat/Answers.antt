-- The reading halts, or comes to the schema as it is read.
use Rattle.sch_loading.proofs.SchemaLemmas.{comes_to_raw, halts_at_rule}
use Rattle.sch_loading.proofs.schema.read_flat.Goals as goal

pub returns-in-Ok-clause-ends : goal.returns-in-Ok-clause-ends
returns-in-Ok-clause-ends c = comes_to_raw c.args.tree.now.nodes c.in-Ok.raw c.in-Ok.ensures.accepted c.in-Ok.ensures.read c.flat_of.result c.flat_of.ensures.ends

pub returns-in-Err-clause-ends : goal.returns-in-Err-clause-ends
returns-in-Err-clause-ends c = halts_at_rule c.args.tree.now.nodes c.in-Err.error c.in-Err.ensures.refused c.refused.result c.refused.ensures.refusal
