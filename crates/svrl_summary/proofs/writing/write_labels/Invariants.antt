-- Those so far were written.
use Rattle.std.proofs.Common.{take, Ok}
use Rattle.std.specs.List.{flat_map}
use Rattle.sch_io.specs.Wrote.{Wrote}
use Rattle.sch_io.specs.declared.error.Failed.{Failed}
use Rattle.svrl_summary.specs.Lines.{label_line}
use Rattle.svrl_summary.proofs.writing.write_labels.Given as goal

abbrev pub invariant-loop-counted : goal.invariant-loop-counted
invariant-loop-counted g l = Wrote {T = Unit {0}} {E = Failed} (g.O.Sink.log l.initial.out) (g.O.Sink.log l.out) (flat_map (label_line l.word) (take l.counted-index l.labels)) (Ok tt)
