-- The first state stands in front of what comes of the commands and undos.
use Rattle.std.proofs.Common.{◌≡◌, ◌≤◌, ◌+◌, ◌∙◌, [], Err, ap, arith, refl, subst, sym}
use Rattle.std.proofs.lemmas.Result.{err_from_is_err_and}
use Rattle.doc_tree.specs.Kinds.{is_document}
use Rattle.doc_tree.specs.Table.{Contents}
use Rattle.name_scopes.specs.Scoping.{InScope}
use Rattle.edit_script.specs.declared.fault.ScriptError.TheVariants as script
use Rattle.sch_undo.specs.State.{state_text}
use Rattle.sch_commands.specs.Behaviours.{BeginsStates, States}
use Rattle.sch_commands.specs.Following.{items_of}
use Rattle.sch_commands.specs.Telling.{by_plan}
use Rattle.sch_commands.specs.declared.undoing.Undoer.{Undoer}
use Rattle.sch_commands.specs.inner.Sessions.{next_cost}
use Rattle.sch_commands.specs.inner.Undoing.{Goes, place_at}
use Rattle.sch_commands.specs.inner.Ways.{Way}
use Rattle.sch_commands.proofs.EndLemmas.{text_err}
use Rattle.sch_commands.proofs.FollowLemmas.{first_stops, script_faults, script_writing}
use Rattle.sch_commands.proofs.MeasureLemmas.{without-memory}
use Rattle.sch_commands.proofs.UndoLemmas.{none-told, ready-first, starts-at, states-counted, states-told}
use Rattle.sch_commands.proofs.undoing.follow_undoing.Goals as goal

pub script_has_way-requires-clause-document : goal.script_has_way-requires-clause-document
script_has_way-requires-clause-document g c = ap (λ (tree : Contents). is_document tree.nodes) c.tree.ensures ∙ c.laws.ensures.document

pub script_has_way-requires-clause-scoped : goal.script_has_way-requires-clause-scoped
script_has_way-requires-clause-scoped g c = subst (λ (tree : Contents). InScope tree.nodes) (sym c.tree.ensures) c.requires.scoped

pub returns-in_err-history-clause-told : goal.returns-in_err-history-clause-told
returns-in_err-history-clause-told g c =
    let error = err_from_is_err_and c.from_residual.result c.from_residual.ensures.1 in
    let plan = c.args.session.plan in
    let T = c.args.session.tree.nodes in
    without-memory (States (by_plan plan) c.args.undos T c.args.script.now) (BeginsStates (by_plan plan) c.args.undos T c.args.script.now) (g.O.Sink.log c.args.out.now)
    error.0 c.from_residual.result error.1 error.2

pub returns-in_err-history-clause-counted : goal.returns-in_err-history-clause-counted
returns-in_err-history-clause-counted g c =
    let error = err_from_is_err_and c.from_residual.result c.from_residual.ensures.1 in
    let plan = c.args.session.plan in
    let T = c.args.session.tree.nodes in
    none-told plan c.args.undos T c.args.script.now c.args.steps.now c.args.steps.now error.0 c.from_residual.result error.1
    ((rw c.tree.ensures at (c.script_has_way.ensures (by_plan plan))) c.requires.cap) (omega arith)

pub returns-in_err-history-clause-writing : goal.returns-in_err-history-clause-writing
returns-in_err-history-clause-writing g c =
    let error = err_from_is_err_and c.from_residual.result c.from_residual.ensures.1 in
    script_writing script.Memory error.0 c.from_residual.result error.1 error.2

pub returns-in_err-history-clause-write_faults : goal.returns-in_err-history-clause-write_faults
returns-in_err-history-clause-write_faults g c =
    let error = err_from_is_err_and c.from_residual.result c.from_residual.ensures.1 in
    script_faults _ script.Memory error.0 c.from_residual.result error.1 error.2

pub returns-in_err-seen-clause-told : goal.returns-in_err-seen-clause-told
returns-in_err-seen-clause-told g c =
    let error = err_from_is_err_and c.from_residual-in_err-seen.result c.from_residual-in_err-seen.ensures.1 in
    first_stops (by_plan c.args.session.plan) c.args.undos c.args.session.tree.nodes c.args.script.now _ _ c.in_err-seen.field-0.0 c.from_residual-in_err-seen.result (error.1 ∙ ap Err error.2)
    (rw c.in_ok-history.ensures at c.in_err-seen.ensures.wrote)

pub returns-in_err-seen-clause-writing : goal.returns-in_err-seen-clause-writing
returns-in_err-seen-clause-writing g c =
    let error = err_from_is_err_and c.from_residual-in_err-seen.result c.from_residual-in_err-seen.ensures.1 in
    let session = c.in_ok-history.history.session in
    (text_err _ _ (state_text session.plan session.tree.nodes) c.in_err-seen.field-0.0 c.from_residual-in_err-seen.result (error.1 ∙ ap Err error.2) c.in_err-seen.ensures.wrote).writing

pub returns-in_err-seen-clause-write_faults : goal.returns-in_err-seen-clause-write_faults
returns-in_err-seen-clause-write_faults g c =
    let error = err_from_is_err_and c.from_residual-in_err-seen.result c.from_residual-in_err-seen.ensures.1 in
    let session = c.in_ok-history.history.session in
    (text_err _ _ (state_text session.plan session.tree.nodes) c.in_err-seen.field-0.0 c.from_residual-in_err-seen.result (error.1 ∙ ap Err error.2) c.in_err-seen.ensures.wrote).faults

pub returns-in_err-seen-clause-counted : goal.returns-in_err-seen-clause-counted
returns-in_err-seen-clause-counted g c =
    let error = err_from_is_err_and c.from_residual-in_err-seen.result c.from_residual-in_err-seen.ensures.1 in
    let session = c.args.session in
    let at_most : c.write_history.new.steps ≤ c.args.steps.now + next_cost session = rw c.in_ok-history.ensures at c.in_err-seen.ensures.at_most in
    let all : next_cost session ≡ (by_plan session.plan).first_cost session.tree.nodes = c.requires.unevaluated in
    none-told session.plan c.args.undos session.tree.nodes c.args.script.now c.args.steps.now c.write_history.new.steps error.0 c.from_residual-in_err-seen.result error.1
    ((rw c.tree.ensures at (c.script_has_way.ensures (by_plan session.plan))) c.requires.cap) (omega (arith, at_most, all))

pub follow_rest-requires : goal.follow_rest-requires
follow_rest-requires g c =
    let first : Undoer = record { history = c.write_history.new.history; script = c.new-script.result; number = 1; seen = c.in_ok-seen.seen } in
    record {
      ready = ready-first c.args.session c.args.script.now first c.requires.cap c.requires.short (rw c.in_ok-history.ensures at c.in_ok-seen.ensures.plan) (rw c.in_ok-history.ensures at c.in_ok-seen.ensures.tree)
          c.new-script.ensures refl c.in_ok-seen.ensures.fresh;
    }

pub returns-clause-told : goal.returns-clause-told
returns-clause-told g c =
    let session = c.args.session in
    let first : Undoer = record { history = c.write_history.new.history; script = c.new-script.result; number = 1; seen = c.in_ok-seen.seen } in
    let start = starts-at session c.args.undos c.args.script.now c.write_history.new.history c.new-script.result c.in_ok-seen.seen c.requires.some
    (rw c.in_ok-history.ensures at c.in_ok-seen.ensures.plan) (rw c.in_ok-history.ensures at c.in_ok-seen.ensures.tree) (rw c.in_ok-history.ensures at c.in_ok-seen.ensures.depth)
    c.new-script.ensures (rw c.in_ok-history.ensures at c.in_ok-seen.ensures.shown) in
    let way : Way (by_plan session.plan) c.args.undos session.tree.nodes [] (items_of c.args.undos c.args.script.now) = (rw c.tree.ensures at (c.script_has_way.ensures (by_plan session.plan))) c.requires.cap in
    states-told session.plan c.args.undos session.tree.nodes c.args.script.now (place_at first []) (g.O.Sink.log c.args.out.now) (g.O.Sink.log c.write_history.new.out) (g.O.Sink.log c.follow_rest.new.out) c.write_history.new.steps c.follow_rest.new.steps c.follow_rest.result start
    (rw c.in_ok-history.ensures at c.in_ok-seen.ensures.wrote).told
    (c.follow_rest.ensures.rests [] (rw c.in_ok-history.ensures at c.in_ok-seen.ensures.entries) (subst Goes (sym start) way))

pub returns-clause-counted : goal.returns-clause-counted
returns-clause-counted g c =
    let session = c.args.session in
    let first : Undoer = record { history = c.write_history.new.history; script = c.new-script.result; number = 1; seen = c.in_ok-seen.seen } in
    let start = starts-at session c.args.undos c.args.script.now c.write_history.new.history c.new-script.result c.in_ok-seen.seen c.requires.some
    (rw c.in_ok-history.ensures at c.in_ok-seen.ensures.plan) (rw c.in_ok-history.ensures at c.in_ok-seen.ensures.tree) (rw c.in_ok-history.ensures at c.in_ok-seen.ensures.depth)
    c.new-script.ensures (rw c.in_ok-history.ensures at c.in_ok-seen.ensures.shown) in
    let way : Way (by_plan session.plan) c.args.undos session.tree.nodes [] (items_of c.args.undos c.args.script.now) = (rw c.tree.ensures at (c.script_has_way.ensures (by_plan session.plan))) c.requires.cap in
    states-counted session.plan c.args.undos session.tree.nodes c.args.script.now (place_at first []) (g.O.Sink.log c.write_history.new.out) (g.O.Sink.log c.follow_rest.new.out) (next_cost session) c.args.steps.now c.write_history.new.steps c.follow_rest.new.steps c.follow_rest.result start
    c.requires.unevaluated (rw c.in_ok-history.ensures at c.in_ok-seen.ensures.rose)
    (c.follow_rest.ensures.rests [] (rw c.in_ok-history.ensures at c.in_ok-seen.ensures.entries) (subst Goes (sym start) way))
