-- The events so far were written.
use Rattle.std.proofs.Common.{take, Ok}
use Rattle.sch_io.specs.Wrote.{Wrote}
use Rattle.sch_io.specs.declared.error.Failed.{Failed}
use Rattle.pyx_core.specs.Written.{text_of}
use Rattle.sch_commands.proofs.expansion.write_events.Given as goal

abbrev pub invariant-loop-event : goal.invariant-loop-event
invariant-loop-event g l =
    Wrote {T = Unit {0}} {E = Failed} (g.O.Sink.log l.initial.out) (g.O.Sink.log l.out) (text_of (take l.event-index l.events)) (Ok tt)
