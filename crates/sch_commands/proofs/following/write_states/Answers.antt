-- The first state stands in front of what comes of the commands.
use Rattle.std.proofs.Common.{◌≡◌, ◌∙◌, length, Err, ap, arith, refl, sym}
use Rattle.std.proofs.lemmas.Result.{err_from_is_err_and}
use Rattle.doc_tree.specs.Table.{Contents}
use Rattle.edit_script.specs.Script.{LinesLeft, script_left, script_of}
use Rattle.sch_commands.specs.Telling.{Telling}
use Rattle.sch_commands.specs.inner.Followers.{Place}
use Rattle.sch_commands.proofs.CostLemmas.{costs_as}
use Rattle.sch_commands.proofs.EndLemmas.{text_err}
use Rattle.sch_commands.proofs.FollowLemmas.{few_commands, first_stops, first_then}
use Rattle.sch_commands.proofs.StepLemmas.{first_counts, states_count}
use Rattle.sch_commands.proofs.following.write_states.Goals as goal

pub returns-in_err-seen-clause-told : goal.returns-in_err-seen-clause-told
returns-in_err-seen-clause-told g c =
    let error = err_from_is_err_and c.from_residual.result c.from_residual.ensures.1 in
    let at = g.F.Followed.document c.args.followed.now in
    first_stops at.telling 0 at.tree.nodes c.args.script.now _ _ c.in_err-seen.field-0.0 c.from_residual.result (error.1 ∙ ap Err error.2) c.in_err-seen.ensures.wrote

pub returns-in_err-seen-clause-writing : goal.returns-in_err-seen-clause-writing
returns-in_err-seen-clause-writing g c =
    let error = err_from_is_err_and c.from_residual.result c.from_residual.ensures.1 in
    let at = g.F.Followed.document c.args.followed.now in
    (text_err _ _ (at.telling.text at.tree.nodes) c.in_err-seen.field-0.0 c.from_residual.result (error.1 ∙ ap Err error.2) c.in_err-seen.ensures.wrote).writing

pub returns-in_err-seen-clause-write_faults : goal.returns-in_err-seen-clause-write_faults
returns-in_err-seen-clause-write_faults g c =
    let error = err_from_is_err_and c.from_residual.result c.from_residual.ensures.1 in
    let at = g.F.Followed.document c.args.followed.now in
    (text_err _ _ (at.telling.text at.tree.nodes) c.in_err-seen.field-0.0 c.from_residual.result (error.1 ∙ ap Err error.2) c.in_err-seen.ensures.wrote).faults

pub follow_rest-requires-clause-ready : goal.follow_rest-requires-clause-ready
follow_rest-requires-clause-ready g c = record {
  cap = ap (λ (tree : Contents). tree.pair_cap) c.in_ok-seen.ensures.tree ∙ c.requires.cap ∙ ap (λ (t : Telling). t.pair_cap) (sym c.in_ok-seen.ensures.telling);
  few =
      let same : length (script_left c.new-script.result).commands ≡ length (script_of c.args.script.now).commands = ap (λ (left : LinesLeft). length (script_left left).commands) c.new-script.ensures in
      omega (arith, few_commands c.args.script.now c.requires.short, same);
  costs = costs_as (g.F.Followed.document c.args.followed.now) (g.F.Followed.document c.write_state.new.self) (script_of c.args.script.now) (script_left c.new-script.result)
      c.in_ok-seen.ensures.telling c.in_ok-seen.ensures.tree (ap script_left c.new-script.ensures) c.requires.costs;
}

pub returns-in_err-seen-clause-counted : goal.returns-in_err-seen-clause-counted
returns-in_err-seen-clause-counted g c =
    let error = err_from_is_err_and c.from_residual.result c.from_residual.ensures.1 in
    first_counts (g.F.Followed.document c.args.followed.now) c.args.script.now _ _ error.0 c.from_residual.result error.1 c.requires.unevaluated c.requires.costs c.in_err-seen.ensures.at_most

pub returns-clause-counted : goal.returns-clause-counted
returns-clause-counted g c =
    let document = g.F.Followed.document in
    let first : Place = record { session = document c.write_state.new.self; script = script_left c.new-script.result; number = 1; seen = c.in_ok-seen.seen } in
    states_count (document c.args.followed.now) c.args.script.now first c.args.steps.now c.write_state.new.steps c.follow_rest.new.steps c.follow_rest.result c.requires.unevaluated
    c.in_ok-seen.ensures.telling c.in_ok-seen.ensures.tree (ap script_left c.new-script.ensures) c.in_ok-seen.ensures.rose c.follow_rest.ensures.counted

pub returns-clause-told : goal.returns-clause-told
returns-clause-told g c =
    let document = g.F.Followed.document in
    let at = document c.args.followed.now in
    let first : Place = record { session = document c.write_state.new.self; script = script_left c.new-script.result; number = 1; seen = c.in_ok-seen.seen } in
    first_then at.telling at.tree.nodes c.args.script.now (g.O.Sink.log c.args.out.now) (g.O.Sink.log c.write_state.new.out) (g.O.Sink.log c.follow_rest.new.out) first
    (record { telling_is = c.in_ok-seen.ensures.telling; tree_is = ap (λ (tree : Contents). tree.nodes) c.in_ok-seen.ensures.tree; number_is = refl; rest_is = ap script_left c.new-script.ensures })
    c.in_ok-seen.ensures.shown c.in_ok-seen.ensures.wrote.told c.follow_rest.result c.follow_rest.ensures.told
