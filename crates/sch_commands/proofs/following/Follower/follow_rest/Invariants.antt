-- The commands so far were done.
use Rattle.std.proofs.Common.{◌≡◌, ◌≤◌, length}
use Rattle.edit_script.specs.Script.{script_left}
use Rattle.sch_commands.specs.inner.Counts.{IsCosted}
use Rattle.sch_commands.specs.inner.Followers.{IsReady, place_of}
use Rattle.sch_commands.proofs.FollowLemmas.{HasCome}
use Rattle.sch_commands.proofs.following.Follower.follow_rest.Given as goal

abbrev pub invariant-loop-command : goal.invariant-loop-command
invariant-loop-command g l = record {
  ready : IsReady (place_of (g.F.Followed.document l.followed) l.self);
  fresh : g.F.Followed.is_evaluated l.followed;
  come : HasCome (place_of (g.F.Followed.document l.initial.followed) l.initial.self) (place_of (g.F.Followed.document l.followed) l.self) (g.O.Sink.log l.initial.out) (g.O.Sink.log l.out);
  faults : (g.O.Sink.log l.out).faults ≡ (g.O.Sink.log l.initial.out).faults;
  costed : IsCosted (place_of (g.F.Followed.document l.initial.followed) l.initial.self) (place_of (g.F.Followed.document l.followed) l.self) l.initial.steps l.steps;
  steps : l.initial.steps ≤ l.steps;
}

abbrev pub decreases-loop-command : goal.decreases-loop-command
decreases-loop-command g l = length (script_left l.self.script).commands
