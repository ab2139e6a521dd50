-- The parts end as the whole.
use Rattle.std.proofs.Common.{◌∙◌, ◌≡◌, [], ◌∷◌, true, true≢false, Err, ap, refl}
use Rattle.std.proofs.lemmas.Result.{err_from_is_err_and}
use Rattle.sch_undo.specs.State.{shows, state_text}
use Rattle.sch_commands.specs.Behaviours.{Opening}
use Rattle.sch_loading.specs.Reads.{file, schema_file}
use Rattle.sch_commands.specs.Output.{state}
use Rattle.sch_commands.specs.Telling.{by_plan}
use Rattle.sch_commands.specs.inner.Followers.{treed_by}
use Rattle.sch_commands.proofs.CarryLemmas.{accepted, carried, refused_early, stopped_before}
use Rattle.sch_commands.proofs.EndLemmas.{text_behind}
use Rattle.sch_commands.proofs.StepLemmas.{state_counts}
use Rattle.sch_commands.proofs.validation.validate.Goals as goal

pub returns-in_err-session-clause-carried : goal.returns-in_err-session-clause-carried
returns-in_err-session-clause-carried g c =
    let error = err_from_is_err_and c.from_residual.result c.from_residual.ensures.1 in
    let asked = c.args.asked in
    stopped_before (schema_file asked.schema.now ∷ file asked.document.now ∷ []) (λ files. Opening files asked.phase.now asked.schema.now asked.document.now) treed_by
    (λ at output. output ≡ state at.plan at.tree) (λ at text. text ≡ state_text at.plan at.tree) (λ at cost. cost ≡ (by_plan at.plan).first_cost at.tree) true _ _ _ _
    c.in_err-session.field-0.0 c.from_residual.result (error.1 ∙ ap Err error.2) c.in_err-session.ensures.reads

pub returns-in_err-session-clause-accepted : goal.returns-in_err-session-clause-accepted
returns-in_err-session-clause-accepted g c =
    let error = err_from_is_err_and c.from_residual.result c.from_residual.ensures.1 in
    refused_early c.in_err-session.field-0.0 c.from_residual.result (error.1 ∙ ap Err error.2) c.in_err-session.ensures.reads.no_usage

pub returns-clause-carried : goal.returns-clause-carried
returns-clause-carried g c =
    let asked = c.args.asked in
    let session = c.in_ok-session.session in
    carried (schema_file asked.schema.now ∷ file asked.document.now ∷ []) (λ files. Opening files asked.phase.now asked.schema.now asked.document.now) treed_by
    (λ at output. output ≡ state at.plan at.tree) (λ at text. text ≡ state_text at.plan at.tree) (λ at cost. cost ≡ (by_plan at.plan).first_cost at.tree) true _ _ _ _ _ _
    session c.write_once-written.result c.in_ok-session.ensures.reads
    (text_behind (λ at output. output ≡ state at.plan at.tree) (λ at text. text ≡ state_text at.plan at.tree) (treed_by session) _ _ (state_text session.plan session.tree.nodes) (shows session.plan session.tree.nodes)
    refl refl c.write_once-written.result c.write_once-written.ensures.wrote c.write_once-written.ensures.shown (λ at cost. cost ≡ (by_plan at.plan).first_cost at.tree) true _ _
    (state_counts (by_plan session.plan) session.tree.nodes _ _ c.write_once-written.result c.write_once-written.ensures.wrote.writing c.write_once-written.ensures.rose c.write_once-written.ensures.at_most)
    (λ idle. absurd (true≢false idle)) c.write_once-written.ensures.steps)

pub returns-clause-accepted : goal.returns-clause-accepted
returns-clause-accepted g c = accepted c.write_once-written.result c.write_once-written.ensures.wrote.writing
