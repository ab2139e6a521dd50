-- Those so far were written.
use Rattle.std.proofs.Common.{take, Ok}
use Rattle.std.specs.List.{flat_map}
use Rattle.sch_io.specs.Wrote.{Wrote}
use Rattle.sch_io.specs.declared.error.Failed.{Failed}
use Rattle.svrl_read.specs.Lines.{prefix_lines}
use Rattle.svrl_read.proofs.writing.write_prefixes.Given as goal

abbrev pub invariant-loop-prefix : goal.invariant-loop-prefix
invariant-loop-prefix g l = Wrote {T = Unit {0}} {E = Failed} (g.O.Sink.log l.initial.sink) (g.O.Sink.log l.sink) (flat_map prefix_lines (take l.prefix-index l.prefixes)) (Ok tt)
