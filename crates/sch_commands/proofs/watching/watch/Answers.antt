-- The parts end as the whole.
use Rattle.std.proofs.Common.{◌∙◌, [], ◌∷◌, true, true≢false, Err, ap}
use Rattle.std.proofs.lemmas.Result.{err_from_is_err_and}
use Rattle.doc_tree.specs.Kinds.{is_document}
use Rattle.doc_tree.specs.Table.{Contents}
use Rattle.sch_loading.specs.Reads.{file}
use Rattle.sch_commands.specs.Behaviours.{BeginsStates, States, StatesCost, WatchingAll}
use Rattle.sch_commands.specs.Telling.{by_watches}
use Rattle.sch_commands.specs.inner.Followers.{watched_script}
use Rattle.sch_commands.proofs.CarryLemmas.{accepted, carried, refused_early, stopped_before}
use Rattle.sch_commands.proofs.StepLemmas.{along_by}
use Rattle.sch_commands.proofs.watching.watch.Goals as goal

pub returns-in_err-watch-clause-carried : goal.returns-in_err-watch-clause-carried
returns-in_err-watch-clause-carried g c =
    let error = err_from_is_err_and c.from_residual.result c.from_residual.ensures.1 in
    let asked = c.args.asked in
    stopped_before (file asked.watches.now ∷ file asked.document.now ∷ file asked.script.now ∷ [])
    (λ files. WatchingAll files asked.watches.now asked.document.now asked.script.now) watched_script
    (λ at. States (by_watches at.watched.expressions) 0 at.watched.tree at.script) (λ at. BeginsStates (by_watches at.watched.expressions) 0 at.watched.tree at.script)
    (λ at. StatesCost (by_watches at.watched.expressions) 0 at.watched.tree at.script) true _ _ _ _
    c.in_err-watch.field-0.0 c.from_residual.result (error.1 ∙ ap Err error.2) c.in_err-watch.ensures.reads

pub returns-in_err-watch-clause-accepted : goal.returns-in_err-watch-clause-accepted
returns-in_err-watch-clause-accepted g c =
    let error = err_from_is_err_and c.from_residual.result c.from_residual.ensures.1 in
    refused_early c.in_err-watch.field-0.0 c.from_residual.result (error.1 ∙ ap Err error.2) c.in_err-watch.ensures.reads.no_usage

pub write_states-requires-clause-costs : goal.write_states-requires-clause-costs
write_states-requires-clause-costs g c =
    let opened = c.in_ok-watch.field-0 in rw c.tree.ensures at (c.script_has_cost.ensures (by_watches opened.watch.expressions))

pub returns-clause-carried : goal.returns-clause-carried
returns-clause-carried g c =
    let asked = c.args.asked in
    let opened = c.in_ok-watch.field-0 in
    carried (file asked.watches.now ∷ file asked.document.now ∷ file asked.script.now ∷ [])
    (λ files. WatchingAll files asked.watches.now asked.document.now asked.script.now) watched_script
    (λ at. States (by_watches at.watched.expressions) 0 at.watched.tree at.script) (λ at. BeginsStates (by_watches at.watched.expressions) 0 at.watched.tree at.script)
    (λ at. StatesCost (by_watches at.watched.expressions) 0 at.watched.tree at.script) true _ _ _ _ _ _
    opened c.write_states.result c.in_ok-watch.ensures.reads
    (record {
      whole = rw c.as_slice-bytes.ensures at c.write_states.ensures.told;
      writing = c.write_states.ensures.writing;
      write_faults = c.write_states.ensures.write_faults;
      counted = along_by (StatesCost (by_watches opened.watch.expressions) 0 opened.watch.tree.nodes opened.script) _ _ c.write_states.result c.write_states.ensures.writing
          (rw c.as_slice-bytes.ensures at c.write_states.ensures.counted);
      unevaluated = λ idle. absurd (true≢false idle);
      rises = c.write_states.ensures.steps;
    })

pub returns-clause-accepted : goal.returns-clause-accepted
returns-clause-accepted g c = accepted c.write_states.result c.write_states.ensures.writing

pub script_has_cost-requires-clause-document : goal.script_has_cost-requires-clause-document
script_has_cost-requires-clause-document g c = ap (λ (tree : Contents). is_document tree.nodes) c.tree.ensures ∙ c.laws.ensures.document
