-- The commands and undos so far were done.
use Rattle.std.proofs.Common.{◌≡◌, ◌≤◌, List}
use Rattle.edit_script.specs.Undos.{item_count, items_left}
use Rattle.sch_commands.specs.Following.{Earlier}
use Rattle.sch_commands.specs.inner.Undoing.{Goes, IsReady, Keeps, MovedTo, place_at}
use Rattle.sch_commands.proofs.undoing.Undoer.follow_rest.Given as goal

abbrev pub invariant-loop-item : goal.invariant-loop-item
invariant-loop-item g l = record {
  ready : IsReady l.self (items_left l.self.script);
  come : (backs : List Earlier) → Keeps l.initial.self.history backs → Goes (place_at l.initial.self backs) →
      MovedTo (place_at l.initial.self backs) l.self (g.O.Sink.log l.initial.out) (g.O.Sink.log l.out) l.initial.steps l.steps;
  faults : (g.O.Sink.log l.out).faults ≡ (g.O.Sink.log l.initial.out).faults;
  steps : l.initial.steps ≤ l.steps;
}

abbrev pub decreases-loop-item : goal.decreases-loop-item
decreases-loop-item g l = item_count (items_left l.self.script)
