use Rattle.std.proofs.Common.{length, take, ◌-◌, ◌≤◌}
use Rattle.sch_io.proofs.Fronts.{WroteFront}
use Rattle.sch_io.proofs.writing.write_all.Given as goal

abbrev pub invariant-loop-done : goal.invariant-loop-done
invariant-loop-done g l = record {
  within : l.done ≤ length l.piece;
  wrote : WroteFront (g.O.Sink.log l.initial.sink) (g.O.Sink.log l.sink) (take l.done l.piece);
}

abbrev pub decreases-loop-done : goal.decreases-loop-done
decreases-loop-done g l = length l.piece - l.done
