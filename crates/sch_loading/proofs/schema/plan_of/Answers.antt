-- The schema without abstract parts gives the plan of the phase, or breaks a rule.
use Rattle.std.proofs.Common.{◌∙◌, Err, Ok, ap}
use Rattle.std.proofs.lemmas.Result.{err_from_is_err_and}
use Rattle.sch_loading.proofs.SchemaLemmas.{comes_to_plan, goes_to_plan, halts_at_plan, no_flat}
use Rattle.sch_loading.proofs.schema.plan_of.Goals as goal

pub returns-in_err-flat-clause-ends : goal.returns-in_err-flat-clause-ends
returns-in_err-flat-clause-ends c =
    let error = err_from_is_err_and c.from_residual.result c.from_residual.ensures.1 in
    no_flat c.args.tree.now.nodes c.args.phase.now c.in_err-flat.field-0.0 c.from_residual.result (error.1 ∙ ap Err error.2) c.in_err-flat.ensures.ends

pub returns-in-Ok-clause-ends : goal.returns-in-Ok-clause-ends
returns-in-Ok-clause-ends c = comes_to_plan c.args.tree.now.nodes c.args.phase.now c.in_ok-flat.flat c.in_ok-flat.ensures.ends (Ok c.in-Ok.plan)
    (goes_to_plan c.args.tree.now.nodes c.args.phase.now c.in_ok-flat.flat c.in-Ok.plan c.in-Ok.ensures.compiled)

pub returns-in-Err-clause-ends : goal.returns-in-Err-clause-ends
returns-in-Err-clause-ends c = comes_to_plan c.args.tree.now.nodes c.args.phase.now c.in_ok-flat.flat c.in_ok-flat.ensures.ends (Err c.refused.result)
    (halts_at_plan c.args.tree.now.nodes c.args.phase.now c.in_ok-flat.flat c.in-Err.error c.in-Err.ensures.compiled c.refused.result c.refused.ensures.refusal)
