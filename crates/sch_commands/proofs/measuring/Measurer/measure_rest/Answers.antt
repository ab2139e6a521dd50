-- The commands are done one after another, up to the end of the script or what stops the run.
use Rattle.std.proofs.Common.{◌∙◌, arith, refl}
use Rattle.std.proofs.lemmas.Result.{err_from_is_err_and}
use Rattle.edit_script.specs.Script.{script_left}
use Rattle.sch_commands.specs.inner.Measurers.{place_at}
use Rattle.sch_commands.specs.inner.Sessions.{document_of}
use Rattle.sch_commands.proofs.MeasureLemmas.{begins-there, costs-next, ends-there, moves-next, stops-for-memory, stops-there}
use Rattle.sch_commands.proofs.measuring.Measurer.measure_rest.Goals as goal

pub loop-command-init : goal.loop-command-init
loop-command-init g c = record {
  ready = c.requires.ready;
  costs = c.requires.costs;
  come = λ number seen is. begins-there c.args.self.now _ number seen is;
  plan = refl;
  steps = omega arith;
}

pub returns-in_err-command-clause-ends : goal.returns-in_err-command-clause-ends
returns-in_err-command-clause-ends g c = λ number seen is.
    let error = err_from_is_err_and c.from_residual.result c.from_residual.ensures.1 in
    stops-there c.args.self.now c.loop-command.self _ _ _ number seen c.in_err-command.field-0.0 error.0 c.from_residual.result error.1 error.2 c.in_err-command.ensures.fault
    c.loop-command.invariant.costs (c.loop-command.invariant.come number seen is)

pub returns-in_err-done-clause-ends : goal.returns-in_err-done-clause-ends
returns-in_err-done-clause-ends g c = λ number seen is.
    let error = err_from_is_err_and c.from_residual-in_err-done.result c.from_residual-in_err-done.ensures.1 in
    stops-for-memory c.args.self.now c.loop-command.self c.measure_command-done.new.self (script_left c.next.new.self) c.in_ok-command.field-0 c.in-Some.command
    c.args.steps.now c.loop-command.steps c.measure_command-done.new.steps number seen error.0 c.from_residual-in_err-done.result error.1 (error.2 ∙ c.in_err-done.ensures.memory)
    c.in-Some.is c.in_ok-command.ensures.command (c.loop-command.invariant.come number seen is) c.in_err-done.ensures.at_most

pub measure_command-done-requires-clause-costs : goal.measure_command-done-requires-clause-costs
measure_command-done-requires-clause-costs g c =
    costs-next (document_of c.loop-command.self.session) (script_left c.loop-command.self.script) (script_left c.next.new.self) c.in_ok-command.field-0 c.in-Some.command c.in-Some.is c.in_ok-command.ensures.command
    c.loop-command.invariant.costs

pub loop-command-preserved : goal.loop-command-preserved
loop-command-preserved g c = record {
  ready = c.in_ok-done.ensures.ready;
  costs = c.in_ok-done.ensures.costs;
  come = λ number seen is.
      moves-next c.args.self.now c.loop-command.self c.measure_command-done.new.self (script_left c.next.new.self) c.in_ok-command.field-0 c.in-Some.command
      c.args.steps.now c.loop-command.steps c.measure_command-done.new.steps number seen c.in-Some.is c.in_ok-command.ensures.command
      (c.loop-command.invariant.come number seen is) c.in_ok-done.ensures.moves;
  plan = c.in_ok-done.ensures.plan ∙ c.loop-command.invariant.plan;
  steps = omega (arith, c.loop-command.invariant.steps, c.in_ok-done.ensures.steps);
}

pub returns-clause-ends : goal.returns-clause-ends
returns-clause-ends g c = λ number seen is.
    ends-there (place_at c.args.self.now number seen) c.loop-command.self c.next.new.self _ _ c.in_ok-command.field-0 c.in_default.not-Some c.in_ok-command.ensures.end
    (c.loop-command.invariant.come number seen is)

pub returns-clause-ready : goal.returns-clause-ready
returns-clause-ready g c =
    let ready = c.loop-command.invariant.ready in
    record { cap = ready.cap; fresh = ready.fresh; last = ready.last }
