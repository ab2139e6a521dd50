-- The first state is measured, then what the commands make of it.
use Rattle.std.proofs.Common.{◌≡◌, ◌∙◌, Result, Ok, Err, ap, refl, sym}
use Rattle.std.proofs.lemmas.Result.{err_from_is_err_and}
use Rattle.doc_tree.specs.Kinds.{is_document}
use Rattle.doc_tree.specs.Table.{Contents}
use Rattle.edit_script.specs.Script.{script_left, script_of}
use Rattle.sch_compiled.specs.declared.plan.Plan.{Plan}
use Rattle.sch_undo.specs.Pairs.{pair_cap_for}
use Rattle.sch_undo.specs.State.{shows}
use Rattle.sch_undo.specs.shown.Shown.{Shown}
use Rattle.sch_stops.specs.declared.stop.Stop.{Stop}
use Rattle.sch_commands.specs.Behaviours.{Measures, MeasuresText, StatesCost}
use Rattle.sch_commands.specs.Telling.{by_plan}
use Rattle.sch_commands.specs.declared.measuring.Measured.{Measured}
use Rattle.sch_commands.specs.declared.measuring.Measurer.{Measurer}
use Rattle.sch_commands.specs.inner.Measurers.{is_fault, measured_of, place_at, text_of_both}
use Rattle.sch_commands.specs.inner.Sessions.{document_of}
use Rattle.sch_commands.proofs.CostLemmas.{costs_as}
use Rattle.sch_commands.proofs.FollowLemmas.{script_faults, script_writing}
use Rattle.sch_commands.proofs.MeasureLemmas.{concludes-faults, concludes-writing, counts-end, measure-stopped, measure-told, shows-fault, without-memory}
use Rattle.sch_commands.proofs.StepLemmas.{ahead_stops, first_counts, rest_counts, states_count}
use Rattle.edit_script.specs.declared.fault.ScriptError.TheVariants as script
use Rattle.sch_commands.proofs.measuring.measure_states.Goals as goal

pub returns-in_err-first-clause-told : goal.returns-in_err-first-clause-told
returns-in_err-first-clause-told g c =
    let error = err_from_is_err_and c.from_residual.result c.from_residual.ensures.1 in
    without-memory (Measures c.args.session.plan c.args.session.tree.nodes c.args.script.now) (MeasuresText c.args.session.plan c.args.session.tree.nodes c.args.script.now) (g.O.Sink.log c.args.out.now)
    error.0 c.from_residual.result error.1 (error.2 ∙ c.in_err-first.ensures.memory)

pub returns-in_err-first-clause-writing : goal.returns-in_err-first-clause-writing
returns-in_err-first-clause-writing g c =
    let error = err_from_is_err_and c.from_residual.result c.from_residual.ensures.1 in
    script_writing script.Memory error.0 c.from_residual.result error.1 (error.2 ∙ c.in_err-first.ensures.memory)

pub returns-in_err-first-clause-write_faults : goal.returns-in_err-first-clause-write_faults
returns-in_err-first-clause-write_faults g c =
    let error = err_from_is_err_and c.from_residual.result c.from_residual.ensures.1 in
    script_faults _ script.Memory error.0 c.from_residual.result error.1 (error.2 ∙ c.in_err-first.ensures.memory)

pub returns-in_err-first-clause-counted : goal.returns-in_err-first-clause-counted
returns-in_err-first-clause-counted g c =
    let error = err_from_is_err_and c.from_residual.result c.from_residual.ensures.1 in
    first_counts (document_of c.args.session) c.args.script.now _ _ error.0 c.from_residual.result error.1 c.requires.unevaluated (rw c.tree.ensures at (c.script_has_cost.ensures (by_plan c.args.session.plan))) c.in_err-first.ensures.at_most

pub measure_rest-requires-clause-ready : goal.measure_rest-requires-clause-ready
measure_rest-requires-clause-ready g c =
    let plans = c.in_ok-first.ensures.plan in
    let trees = c.in_ok-first.ensures.tree in
    record {
      cap = ap (λ (tree : Contents). tree.pair_cap) trees ∙ c.requires.cap ∙ ap pair_cap_for (sym plans);
      fresh = c.in_ok-first.ensures.fresh;
      last = c.in_ok-first.ensures.measured ∙ ap (λ (p : Plan). measured_of p c.args.session.tree.nodes) (sym plans)
          ∙ ap (λ (tree : Contents). measured_of c.measure_state.new.session.plan tree.nodes) (sym trees);
    }

pub measure_rest-requires-clause-costs : goal.measure_rest-requires-clause-costs
measure_rest-requires-clause-costs g c =
    costs_as (document_of c.args.session) (document_of c.measure_state.new.session) (script_of c.args.script.now) (script_left c.new-script.result) (ap by_plan c.in_ok-first.ensures.plan) c.in_ok-first.ensures.tree
    (ap script_left c.new-script.ensures) (rw c.tree.ensures at (c.script_has_cost.ensures (by_plan c.args.session.plan)))

pub returns-in_err-measure_rest-clause-told : goal.returns-in_err-measure_rest-clause-told
returns-in_err-measure_rest-clause-told g c =
    let error = err_from_is_err_and c.from_residual-in_err-measure_rest.result c.from_residual-in_err-measure_rest.ensures.1 in
    let plan = c.args.session.plan in
    let T = c.args.session.tree.nodes in
    let start : Measurer = record { session = c.measure_state.new.session; script = c.new-script.result; last = c.in_ok-first.first; faulted = c.in_ok-first.first.counts.faulted } in
    let faulted : start.faulted ≡ is_fault (shows plan T) = ap (λ (m : Measured). m.counts.faulted) c.in_ok-first.ensures.measured ∙ sym (shows-fault plan T) in
    let ends = c.in_err-measure_rest.ensures.ends 1 (shows plan T) faulted in
    measure-stopped plan T c.args.script.now (place_at start 1 (shows plan T))
    (record { telling_is = ap by_plan c.in_ok-first.ensures.plan; tree_is = ap (λ (tree : Contents). tree.nodes) c.in_ok-first.ensures.tree; number_is = refl; rest_is = ap script_left c.new-script.ensures }) refl
    _ _ (g.O.Sink.log c.args.out.now) ends.0 c.in_err-measure_rest.field-0.0 c.from_residual-in_err-measure_rest.result (error.1 ∙ ap Err error.2) ends.1 ends.2

pub returns-in_err-measure_rest-clause-writing : goal.returns-in_err-measure_rest-clause-writing
returns-in_err-measure_rest-clause-writing g c =
    let error = err_from_is_err_and c.from_residual-in_err-measure_rest.result c.from_residual-in_err-measure_rest.ensures.1 in
    let plan = c.args.session.plan in
    let T = c.args.session.tree.nodes in
    let ends = c.in_err-measure_rest.ensures.ends 1 (shows plan T) (ap (λ (m : Measured). m.counts.faulted) c.in_ok-first.ensures.measured ∙ sym (shows-fault plan T)) in
    script_writing ends.0 c.in_err-measure_rest.field-0.0 c.from_residual-in_err-measure_rest.result (error.1 ∙ ap Err error.2) ends.1

pub returns-in_err-measure_rest-clause-write_faults : goal.returns-in_err-measure_rest-clause-write_faults
returns-in_err-measure_rest-clause-write_faults g c =
    let error = err_from_is_err_and c.from_residual-in_err-measure_rest.result c.from_residual-in_err-measure_rest.ensures.1 in
    let plan = c.args.session.plan in
    let T = c.args.session.tree.nodes in
    let ends = c.in_err-measure_rest.ensures.ends 1 (shows plan T) (ap (λ (m : Measured). m.counts.faulted) c.in_ok-first.ensures.measured ∙ sym (shows-fault plan T)) in
    script_faults _ ends.0 c.in_err-measure_rest.field-0.0 c.from_residual-in_err-measure_rest.result (error.1 ∙ ap Err error.2) ends.1

pub returns-in_err-measure_rest-clause-counted : goal.returns-in_err-measure_rest-clause-counted
returns-in_err-measure_rest-clause-counted g c =
    let error = err_from_is_err_and c.from_residual-in_err-measure_rest.result c.from_residual-in_err-measure_rest.ensures.1 in
    let plan = c.args.session.plan in
    let T = c.args.session.tree.nodes in
    let start : Measurer = record { session = c.measure_state.new.session; script = c.new-script.result; last = c.in_ok-first.first; faulted = c.in_ok-first.first.counts.faulted } in
    let first = place_at start 1 (shows plan T) in
    let ends = c.in_err-measure_rest.ensures.ends 1 (shows plan T) (ap (λ (m : Measured). m.counts.faulted) c.in_ok-first.ensures.measured ∙ sym (shows-fault plan T)) in
    states_count (document_of c.args.session) c.args.script.now first c.args.steps.now c.measure_state.new.steps c.measure_rest.new.steps c.from_residual-in_err-measure_rest.result c.requires.unevaluated
    (ap by_plan c.in_ok-first.ensures.plan) c.in_ok-first.ensures.tree (ap script_left c.new-script.ensures) c.in_ok-first.ensures.rose
    (ahead_stops first c.measure_state.new.steps c.measure_rest.new.steps error.0 c.from_residual-in_err-measure_rest.result error.1 ends.3)

pub returns-clause-told : goal.returns-clause-told
returns-clause-told g c =
    let plan = c.args.session.plan in
    let T = c.args.session.tree.nodes in
    let start : Measurer = record { session = c.measure_state.new.session; script = c.new-script.result; last = c.in_ok-first.first; faulted = c.in_ok-first.first.counts.faulted } in
    let faulted : start.faulted ≡ is_fault (shows plan T) = ap (λ (m : Measured). m.counts.faulted) c.in_ok-first.ensures.measured ∙ sym (shows-fault plan T) in
    let ends = c.in_ok-measure_rest.ensures.ends 1 (shows plan T) faulted in
    measure-told plan T c.args.script.now (place_at start 1 (shows plan T))
    (record { telling_is = ap by_plan c.in_ok-first.ensures.plan; tree_is = ap (λ (tree : Contents). tree.nodes) c.in_ok-first.ensures.tree; number_is = refl; rest_is = ap script_left c.new-script.ensures }) refl
    (place_at c.measure_rest.new.self ends.0.number ends.0.seen) _ _ _ _ c.measure_rest.new.self.faulted c.in_ok-first.first c.measure_rest.new.self.last c.conclude_measure.result
    ends.0.moved ends.1 ends.0.faulted c.in_ok-first.ensures.measured
    (c.in_ok-measure_rest.ensures.ready.last ∙ ap (λ (p : Plan). measured_of p c.measure_rest.new.self.session.tree.nodes) (c.in_ok-measure_rest.ensures.plan ∙ c.in_ok-first.ensures.plan))
    c.conclude_measure.ensures

pub returns-clause-writing : goal.returns-clause-writing
returns-clause-writing g c =
    concludes-writing c.measure_rest.new.self.faulted _ _ (text_of_both c.in_ok-first.first c.measure_rest.new.self.last) c.conclude_measure.result c.conclude_measure.ensures

pub returns-clause-write_faults : goal.returns-clause-write_faults
returns-clause-write_faults g c =
    concludes-faults c.measure_rest.new.self.faulted _ _ (text_of_both c.in_ok-first.first c.measure_rest.new.self.last) c.conclude_measure.result c.conclude_measure.ensures

pub returns-clause-counted : goal.returns-clause-counted
returns-clause-counted g c =
    let plan = c.args.session.plan in
    let T = c.args.session.tree.nodes in
    let start : Measurer = record { session = c.measure_state.new.session; script = c.new-script.result; last = c.in_ok-first.first; faulted = c.in_ok-first.first.counts.faulted } in
    let first = place_at start 1 (shows plan T) in
    let ends = c.in_ok-measure_rest.ensures.ends 1 (shows plan T) (ap (λ (m : Measured). m.counts.faulted) c.in_ok-first.ensures.measured ∙ sym (shows-fault plan T)) in
    let later = place_at c.measure_rest.new.self ends.0.number ends.0.seen in
    let whole : Result Shown Stop = Ok ends.0.seen in
    counts-end (StatesCost (by_plan plan) 0 T c.args.script.now) _ _ ends.0.seen c.measure_rest.new.self.faulted _ _ (text_of_both c.in_ok-first.first c.measure_rest.new.self.last) c.conclude_measure.result
    (states_count (document_of c.args.session) c.args.script.now first c.args.steps.now c.measure_state.new.steps c.measure_rest.new.steps whole c.requires.unevaluated
    (ap by_plan c.in_ok-first.ensures.plan) c.in_ok-first.ensures.tree (ap script_left c.new-script.ensures) c.in_ok-first.ensures.rose
    (rest_counts first later c.measure_state.new.steps c.measure_rest.new.steps ends.0.moved.costed ends.1))
    ends.0.faulted c.conclude_measure.ensures

pub script_has_cost-requires-clause-document : goal.script_has_cost-requires-clause-document
script_has_cost-requires-clause-document g c = ap (λ (tree : Contents). is_document tree.nodes) c.tree.ensures ∙ c.laws.ensures.document
