-- The parts end as the whole.
use Rattle.std.proofs.Common.{◌∙◌, [], ◌∷◌, true, true≢false, Err, ap}
use Rattle.std.proofs.lemmas.Result.{err_from_is_err_and}
use Rattle.sch_loading.specs.Reads.{file, schema_file}
use Rattle.sch_commands.specs.Behaviours.{BeginsStates, OpeningAll, States, StatesCost}
use Rattle.sch_commands.specs.inner.Followers.{scripted_by}
use Rattle.sch_commands.specs.Telling.{by_plan}
use Rattle.sch_commands.proofs.CarryLemmas.{accepted, carried, refused_early, stopped_before}
use Rattle.sch_commands.proofs.StepLemmas.{along_by}
use Rattle.sch_commands.proofs.following.follow.Goals as goal

pub returns-in_err-session-clause-carried : goal.returns-in_err-session-clause-carried
returns-in_err-session-clause-carried g c =
    let error = err_from_is_err_and c.from_residual.result c.from_residual.ensures.1 in
    let asked = c.args.asked.validation in
    stopped_before (schema_file asked.schema.now ∷ file asked.document.now ∷ file c.args.asked.script.now ∷ [])
    (λ files. OpeningAll files asked.phase.now asked.schema.now asked.document.now c.args.asked.script.now) scripted_by
    (λ at. States (by_plan at.treed.plan) c.args.asked.undos at.treed.tree at.script) (λ at. BeginsStates (by_plan at.treed.plan) c.args.asked.undos at.treed.tree at.script) (λ at. StatesCost (by_plan at.treed.plan) c.args.asked.undos at.treed.tree at.script) true _ _ _ _
    c.in_err-session.field-0.0 c.from_residual.result (error.1 ∙ ap Err error.2) c.in_err-session.ensures.reads

pub returns-in_err-session-clause-accepted : goal.returns-in_err-session-clause-accepted
returns-in_err-session-clause-accepted g c =
    let error = err_from_is_err_and c.from_residual.result c.from_residual.ensures.1 in
    refused_early c.in_err-session.field-0.0 c.from_residual.result (error.1 ∙ ap Err error.2) c.in_err-session.ensures.reads.no_usage

pub returns-clause-carried : goal.returns-clause-carried
returns-clause-carried g c =
    let asked = c.args.asked.validation in
    let opened = c.in_ok-session.field-0 in
    carried (schema_file asked.schema.now ∷ file asked.document.now ∷ file c.args.asked.script.now ∷ [])
    (λ files. OpeningAll files asked.phase.now asked.schema.now asked.document.now c.args.asked.script.now) scripted_by
    (λ at. States (by_plan at.treed.plan) c.args.asked.undos at.treed.tree at.script) (λ at. BeginsStates (by_plan at.treed.plan) c.args.asked.undos at.treed.tree at.script) (λ at. StatesCost (by_plan at.treed.plan) c.args.asked.undos at.treed.tree at.script) true _ _ _ _ _ _
    opened c.follow_session.result c.in_ok-session.ensures.reads
    (record {
      whole = rw c.as_slice.ensures at c.follow_session.ensures.told;
      writing = c.follow_session.ensures.writing;
      write_faults = c.follow_session.ensures.write_faults;
      counted = along_by (StatesCost (by_plan opened.session.plan) c.args.asked.undos opened.session.tree.nodes opened.script) _ _ c.follow_session.result c.follow_session.ensures.writing
          (rw c.as_slice.ensures at c.follow_session.ensures.counted);
      unevaluated = λ idle. absurd (true≢false idle);
      rises = c.follow_session.ensures.steps;
    })

pub returns-clause-accepted : goal.returns-clause-accepted
returns-clause-accepted g c = accepted c.follow_session.result c.follow_session.ensures.writing
