-- The schema is planned, and the document opened under its plan.
use Rattle.std.proofs.Common.{◌∙◌, [], ◌∷◌, Err, ap}
use Rattle.std.proofs.lemmas.Result.{err_from_is_err_and}
use Rattle.sch_compiled.specs.declared.plan.Plan.{Plan}
use Rattle.sch_commands.specs.Behaviours.{Opening, Treeing}
use Rattle.sch_loading.specs.Reads.{file, schema_file}
use Rattle.sch_loading.specs.Loading.{Planning}
use Rattle.sch_commands.specs.inner.Followers.{treed_by}
use Rattle.sch_loading.proofs.PartLemmas.{reads_nothing, reads_stopped, reads_then}
use Rattle.sch_commands.proofs.validation.load_asked.Goals as goal

pub returns-in_err-document-clause-reads : goal.returns-in_err-document-clause-reads
returns-in_err-document-clause-reads g c =
    let error = err_from_is_err_and c.from_residual.result c.from_residual.ensures.1 in
    let asked = c.args.asked in
    reads_nothing _ (schema_file asked.schema.now ∷ file asked.document.now ∷ []) (λ files. Opening files asked.phase.now asked.schema.now asked.document.now) treed_by
    c.from_residual.result error.0 error.1 error.2

pub returns-in_err-plan-clause-reads : goal.returns-in_err-plan-clause-reads
returns-in_err-plan-clause-reads g c =
    let error = err_from_is_err_and c.from_residual-in_err-plan.result c.from_residual-in_err-plan.ensures.1 in
    let asked = c.args.asked in
    reads_stopped _ _ (schema_file asked.schema.now ∷ []) (file asked.document.now ∷ []) (λ files. Planning files asked.phase.now asked.schema.now) (λ files plan. Treeing files plan asked.document.now)
    (λ (plan : Plan). plan) treed_by c.in_err-plan.field-0.0 c.from_residual-in_err-plan.result (error.1 ∙ ap Err error.2) c.in_err-plan.ensures.reads

pub returns-clause-reads : goal.returns-clause-reads
returns-clause-reads g c =
    let asked = c.args.asked in
    reads_then _ _ _ (schema_file asked.schema.now ∷ []) (file asked.document.now ∷ []) (λ files. Planning files asked.phase.now asked.schema.now) (λ files plan. Treeing files plan asked.document.now)
    (λ (plan : Plan). plan) treed_by c.in_ok-plan.plan c.load_under.result c.in_ok-plan.ensures.reads (rw (c.in_ok-document.ensures, c.as_str.ensures) at c.load_under.ensures.reads)
