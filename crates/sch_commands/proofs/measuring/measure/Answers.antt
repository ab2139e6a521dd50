-- The parts end as the whole.
use Rattle.std.proofs.Common.{◌∙◌, [], true≢false, true, None, Err, ap}
use Rattle.std.proofs.lemmas.Result.{err_from_is_err_and}
use Rattle.sch_commands.specs.Behaviours.{Making, Measures, MeasuresText, StatesCost}
use Rattle.sch_commands.specs.Telling.{by_plan}
use Rattle.sch_commands.specs.inner.Followers.{scripted_by}
use Rattle.sch_commands.proofs.CarryLemmas.{accepted, carried, refused_early, stopped_before}
use Rattle.sch_commands.proofs.StepLemmas.{along_by}
use Rattle.sch_commands.proofs.measuring.measure.Goals as goal

pub returns-in_err-session-clause-carried : goal.returns-in_err-session-clause-carried
returns-in_err-session-clause-carried g c = λ state.
    let error = err_from_is_err_and c.from_residual.result c.from_residual.ensures.1 in
    stopped_before [] (λ files. Making c.args.items) scripted_by
    (λ at. Measures at.treed.plan at.treed.tree at.script) (λ at. MeasuresText at.treed.plan at.treed.tree at.script) (λ at. StatesCost (by_plan at.treed.plan) 0 at.treed.tree at.script) true state state _ _
    c.in_err-session.field-0.0 c.from_residual.result (error.1 ∙ ap Err error.2) (c.in_err-session.ensures.reads state)

pub returns-in_err-session-clause-accepted : goal.returns-in_err-session-clause-accepted
returns-in_err-session-clause-accepted g c =
    let error = err_from_is_err_and c.from_residual.result c.from_residual.ensures.1 in
    refused_early c.in_err-session.field-0.0 c.from_residual.result (error.1 ∙ ap Err error.2) (c.in_err-session.ensures.reads (record { files = None; rest = None; taken = 0; opened = []; ends = []; faults = 0; misses = 0 })).no_usage

pub returns-clause-carried : goal.returns-clause-carried
returns-clause-carried g c = λ state.
    let opened = c.in_ok-session.field-0 in
    carried [] (λ files. Making c.args.items) scripted_by
    (λ at. Measures at.treed.plan at.treed.tree at.script) (λ at. MeasuresText at.treed.plan at.treed.tree at.script) (λ at. StatesCost (by_plan at.treed.plan) 0 at.treed.tree at.script) true state state _ _ _ _
    opened c.measure_states.result (c.in_ok-session.ensures.reads state)
    (record {
      whole = rw c.as_slice.ensures at c.measure_states.ensures.told;
      writing = c.measure_states.ensures.writing;
      write_faults = c.measure_states.ensures.write_faults;
      counted = along_by (StatesCost (by_plan opened.session.plan) 0 opened.session.tree.nodes opened.script) _ _ c.measure_states.result c.measure_states.ensures.writing
          (rw c.as_slice.ensures at c.measure_states.ensures.counted);
      unevaluated = λ idle. absurd (true≢false idle);
      rises = c.measure_states.ensures.steps;
    })

pub returns-clause-accepted : goal.returns-clause-accepted
returns-clause-accepted g c = accepted c.measure_states.result c.measure_states.ensures.writing
