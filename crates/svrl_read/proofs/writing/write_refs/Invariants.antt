-- Those so far were written.
use Rattle.std.proofs.Common.{take, Ok}
use Rattle.std.specs.List.{flat_map}
use Rattle.sch_io.specs.Wrote.{Wrote}
use Rattle.sch_io.specs.declared.error.Failed.{Failed}
use Rattle.svrl_read.specs.Lines.{ref_lines}
use Rattle.svrl_read.proofs.writing.write_refs.Given as goal

abbrev pub invariant-loop-reference : goal.invariant-loop-reference
invariant-loop-reference g l = Wrote {T = Unit {0}} {E = Failed} (g.O.Sink.log l.initial.sink) (g.O.Sink.log l.sink) (flat_map ref_lines (take l.reference-index l.refs)) (Ok tt)
