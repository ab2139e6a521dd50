-- The line is not written whole, or the state behind it.
use Rattle.std.proofs.Common.{◌∙◌, Err, Result, ap, refl, subst}
use Rattle.std.proofs.lemmas.Result.{err_from_is_err_and}
use Rattle.sch_undo.specs.State.{state_text}
use Rattle.sch_stops.specs.declared.stop.Stop.{Stop}
use Rattle.sch_stops.specs.declared.stop.Stop.TheVariants.{WriteFault}
use Rattle.sch_commands.specs.inner.Counts.{RoseFor}
use Rattle.sch_commands.specs.inner.Sessions.{next_cost}
use Rattle.sch_commands.specs.inner.Undoing.{done_line}
use Rattle.sch_commands.proofs.EndLemmas.{failed_written, text_err, text_stopped, text_then, whole_written}
use Rattle.sch_commands.proofs.undoing.Undoer.write_next.Goals as goal

pub returns-in_err-write_done_line-clause-wrote : goal.returns-in_err-write_done_line-clause-wrote
returns-in_err-write_done_line-clause-wrote g c =
    let error = err_from_is_err_and c.from_residual.result c.from_residual.ensures.1 in
    let stopped : Result (Unit {0}) Stop = Err WriteFault in
    let session = c.args.self.now.history.session in
    text_stopped {A = Unit {0}} _ _ (done_line c.args.done c.args.number) (state_text session.plan session.tree.nodes) WriteFault c.from_residual.result (error.1 ∙ ap Err error.2)
    (failed_written {A = Unit {0}} {T = Unit {0}} _ _ (done_line c.args.done c.args.number) c.in_err-write_done_line.field-0.0 stopped refl c.in_err-write_done_line.ensures)

pub returns-in_err-last-clause-wrote : goal.returns-in_err-last-clause-wrote
returns-in_err-last-clause-wrote g c =
    let error = err_from_is_err_and c.from_residual-in_err-last.result c.from_residual-in_err-last.ensures.1 in
    let stopped : Result (Unit {0}) Stop = Err c.in_err-last.field-0.0 in
    let text = done_line c.args.done c.args.number in
    let session = c.args.self.now.history.session in
    let more = state_text session.plan session.tree.nodes in
    text_err {A = Unit {0}} _ _ _ c.in_err-last.field-0.0 c.from_residual-in_err-last.result (error.1 ∙ ap Err error.2)
    (text_then {A = Unit {0}} {B = Unit {0}} (g.O.Sink.log c.args.out.now) (g.O.Sink.log c.write_done_line.new.out) (g.O.Sink.log c.write_history.new.out) text more tt stopped
    (whole_written {A = Unit {0}} {T = Unit {0}} _ _ text tt tt c.in_ok-write_done_line.ensures)
    (text_err {A = _} {B = Unit {0}} _ _ more c.in_err-last.field-0.0 stopped refl c.in_err-last.ensures.wrote))

pub returns-clause-rose : goal.returns-clause-rose
returns-clause-rose g c = subst (RoseFor (next_cost c.args.self.now.history.session) c.args.steps.now c.write_history.new.steps) c.in_ok-last.ensures.shown c.in_ok-last.ensures.rose
