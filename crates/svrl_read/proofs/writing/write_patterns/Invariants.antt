-- Those so far were written.
use Rattle.std.proofs.Common.{take, Ok}
use Rattle.std.specs.List.{flat_map}
use Rattle.sch_io.specs.Wrote.{Wrote}
use Rattle.sch_io.specs.declared.error.Failed.{Failed}
use Rattle.svrl_read.specs.Lines.{pattern_lines}
use Rattle.svrl_read.proofs.writing.write_patterns.Given as goal

abbrev pub invariant-loop-pattern : goal.invariant-loop-pattern
invariant-loop-pattern g l = Wrote {T = Unit {0}} {E = Failed} (g.O.Sink.log l.initial.sink) (g.O.Sink.log l.sink) (flat_map pattern_lines (take l.pattern-index l.patterns)) (Ok tt)
