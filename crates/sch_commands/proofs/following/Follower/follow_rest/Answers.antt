-- The commands are done one after another, up to the end of the script or what stops the run.
use Rattle.std.proofs.Common.{◌∙◌, ◌≡◌, Err, ap, arith}
use Rattle.std.proofs.lemmas.Result.{err_from_is_err_and}
use Rattle.edit_script.specs.Script.{script_left}
use Rattle.sch_commands.specs.inner.Followers.{in_front_of, place_of}
use Rattle.sch_commands.proofs.FollowLemmas.{come_on, come_to_next, command_stops, no_next, rest_ends, rest_stops}
use Rattle.sch_commands.proofs.StepLemmas.{ahead_none, ahead_on, ahead_stops, costed_on, costed_to_next, rest_counts}
use Rattle.sch_commands.proofs.following.Follower.follow_rest.Goals as goal

pub returns-in_err-command-clause-told : goal.returns-in_err-command-clause-told
returns-in_err-command-clause-told g c =
    let error = err_from_is_err_and c.from_residual.result c.from_residual.ensures.1 in
    rest_stops (place_of (g.F.Followed.document c.args.followed.now) c.args.self.now) (place_of (g.F.Followed.document c.loop-command.followed) c.loop-command.self) (g.O.Sink.log c.args.out.now) (g.O.Sink.log c.loop-command.out) c.loop-command.invariant.come c.in_err-command.field-0.0
    error.0 c.from_residual.result error.1 error.2 c.in_err-command.ensures.fault

pub returns-in_err-command-clause-counted : goal.returns-in_err-command-clause-counted
returns-in_err-command-clause-counted g c =
    let error = err_from_is_err_and c.from_residual.result c.from_residual.ensures.1 in
    ahead_stops (place_of (g.F.Followed.document c.args.followed.now) c.args.self.now) c.args.steps.now c.loop-command.steps error.0 c.from_residual.result error.1
    (ahead_on (place_of (g.F.Followed.document c.args.followed.now) c.args.self.now) (place_of (g.F.Followed.document c.loop-command.followed) c.loop-command.self) c.args.steps.now c.loop-command.steps c.loop-command.steps c.loop-command.invariant.costed
    (ahead_none (place_of (g.F.Followed.document c.loop-command.followed) c.loop-command.self) c.loop-command.steps c.loop-command.invariant.ready.costs))

pub returns-in_err-done-clause-counted : goal.returns-in_err-done-clause-counted
returns-in_err-done-clause-counted g c =
    let error = err_from_is_err_and c.from_residual-in_err-done.result c.from_residual-in_err-done.ensures.1 in
    ahead_stops (place_of (g.F.Followed.document c.args.followed.now) c.args.self.now) c.args.steps.now c.follow_command-done.new.steps error.0 c.from_residual-in_err-done.result error.1
    (ahead_on (place_of (g.F.Followed.document c.args.followed.now) c.args.self.now) (in_front_of c.in-Some.command (record (place_of (g.F.Followed.document c.loop-command.followed) c.loop-command.self) { script = script_left c.next.new.self })) c.args.steps.now c.loop-command.steps c.follow_command-done.new.steps
    (costed_to_next (place_of (g.F.Followed.document c.args.followed.now) c.args.self.now) (place_of (g.F.Followed.document c.loop-command.followed) c.loop-command.self) (script_left c.next.new.self) c.in_ok-command.field-0 c.in-Some.command c.args.steps.now c.loop-command.steps
    c.in-Some.is c.in_ok-command.ensures.command c.loop-command.invariant.costed) c.in_err-done.ensures.at_most)

pub returns-in_err-done-clause-told : goal.returns-in_err-done-clause-told
returns-in_err-done-clause-told g c =
    let error = err_from_is_err_and c.from_residual-in_err-done.result c.from_residual-in_err-done.ensures.1 in
    command_stops {A = Unit {0}} (place_of (g.F.Followed.document c.args.followed.now) c.args.self.now) (in_front_of c.in-Some.command (record (place_of (g.F.Followed.document c.loop-command.followed) c.loop-command.self) { script = script_left c.next.new.self })) (place_of (g.F.Followed.document c.follow_command-done.new.followed) c.follow_command-done.new.self)
    (g.O.Sink.log c.args.out.now) (g.O.Sink.log c.loop-command.out) (g.O.Sink.log c.follow_command-done.new.out)
    (come_to_next (place_of (g.F.Followed.document c.args.followed.now) c.args.self.now) (place_of (g.F.Followed.document c.loop-command.followed) c.loop-command.self) (script_left c.next.new.self) c.in_ok-command.field-0 c.in-Some.command (g.O.Sink.log c.args.out.now) (g.O.Sink.log c.loop-command.out)
    c.in-Some.is c.in_ok-command.ensures.command c.loop-command.invariant.come)
    c.in_err-done.field-0.0 c.from_residual-in_err-done.result (error.1 ∙ ap Err error.2) c.in_err-done.ensures.goes

pub loop-command-preserved : goal.loop-command-preserved
loop-command-preserved g c = record {
  ready = c.in_ok-done.ensures.ready;
  fresh = c.in_ok-done.ensures.fresh;
  come = come_on {A = Unit {0}} (place_of (g.F.Followed.document c.args.followed.now) c.args.self.now) (in_front_of c.in-Some.command (record (place_of (g.F.Followed.document c.loop-command.followed) c.loop-command.self) { script = script_left c.next.new.self })) (place_of (g.F.Followed.document c.follow_command-done.new.followed) c.follow_command-done.new.self)
      (g.O.Sink.log c.args.out.now) (g.O.Sink.log c.loop-command.out) (g.O.Sink.log c.follow_command-done.new.out) tt
      (come_to_next (place_of (g.F.Followed.document c.args.followed.now) c.args.self.now) (place_of (g.F.Followed.document c.loop-command.followed) c.loop-command.self) (script_left c.next.new.self) c.in_ok-command.field-0 c.in-Some.command (g.O.Sink.log c.args.out.now) (g.O.Sink.log c.loop-command.out)
      c.in-Some.is c.in_ok-command.ensures.command c.loop-command.invariant.come)
      c.in_ok-done.ensures.goes;
  faults = c.in_ok-done.ensures.goes.faults ∙ c.loop-command.invariant.faults;
  costed = costed_on (place_of (g.F.Followed.document c.args.followed.now) c.args.self.now) (in_front_of c.in-Some.command (record (place_of (g.F.Followed.document c.loop-command.followed) c.loop-command.self) { script = script_left c.next.new.self })) (place_of (g.F.Followed.document c.follow_command-done.new.followed) c.follow_command-done.new.self)
      c.args.steps.now c.loop-command.steps c.follow_command-done.new.steps
      (costed_to_next (place_of (g.F.Followed.document c.args.followed.now) c.args.self.now) (place_of (g.F.Followed.document c.loop-command.followed) c.loop-command.self) (script_left c.next.new.self) c.in_ok-command.field-0 c.in-Some.command c.args.steps.now c.loop-command.steps
      c.in-Some.is c.in_ok-command.ensures.command c.loop-command.invariant.costed)
      c.in_ok-done.ensures.costed;
  steps = omega (arith, c.loop-command.invariant.steps, c.in_ok-done.ensures.steps);
}

pub returns-clause-told : goal.returns-clause-told
returns-clause-told g c =
    rest_ends (place_of (g.F.Followed.document c.args.followed.now) c.args.self.now) (place_of (g.F.Followed.document c.loop-command.followed) c.loop-command.self) (g.O.Sink.log c.args.out.now) (g.O.Sink.log c.loop-command.out) c.loop-command.invariant.come
    (no_next c.in_ok-command.field-0 (script_left c.loop-command.self.script) (c.next.new.self ≡ c.loop-command.self.script) c.in_default.not-Some c.in_ok-command.ensures.end)

pub returns-clause-counted : goal.returns-clause-counted
returns-clause-counted g c =
    rest_counts (place_of (g.F.Followed.document c.args.followed.now) c.args.self.now) (place_of (g.F.Followed.document c.loop-command.followed) c.loop-command.self) c.args.steps.now c.loop-command.steps c.loop-command.invariant.costed
    (no_next c.in_ok-command.field-0 (script_left c.loop-command.self.script) (c.next.new.self ≡ c.loop-command.self.script) c.in_default.not-Some c.in_ok-command.ensures.end)
