use Rattle.std.proofs.Common.{◌≤◌, take, Ok}
use Rattle.sch_io.specs.Wrote.{Wrote}
use Rattle.sch_io.specs.declared.error.Failed.{Failed}
use Rattle.pyx_core.specs.Escapes.{escaped}
use Rattle.pyx_write.proofs.Runs.{IsPlainRun}
use Rattle.pyx_write.proofs.escapes.write_escaped.Given as goal

abbrev pub invariant-loop-at : goal.invariant-loop-at
invariant-loop-at g l = record {
  within : l.start ≤ l.at;
  plain : IsPlainRun l.bytes l.start l.at;
  wrote : Wrote {T = Unit {0}} {E = Failed} (g.O.Sink.log l.initial.sink) (g.O.Sink.log l.sink) (escaped (take l.start l.bytes)) (Ok tt);
}
