-- The attributes so far were written.
use Rattle.std.proofs.Common.{take, Ok}
use Rattle.sch_io.specs.Wrote.{Wrote}
use Rattle.sch_io.specs.declared.error.Failed.{Failed}
use Rattle.pyx_core.specs.Written.{attr_lines}
use Rattle.pyx_write.proofs.event.write_attrs.Given as goal

abbrev pub invariant-loop-attr : goal.invariant-loop-attr
invariant-loop-attr g l =
    Wrote {T = Unit {0}} {E = Failed} (g.O.Sink.log l.initial.sink) (g.O.Sink.log l.sink) (attr_lines (take l.attr-index l.attrs)) (Ok tt)
