-- The references so far were written.
use Rattle.std.proofs.Common.{length, take, Ok}
use Rattle.std.specs.List.{flat_map, zip}
use Rattle.sch_io.specs.Wrote.{Wrote}
use Rattle.sch_io.specs.declared.error.Failed.{Failed}
use Rattle.svrl_out.specs.Report.{reference_lines}
use Rattle.svrl_out.proofs.parts.write_references.Given as goal

abbrev pub invariant-loop-item : goal.invariant-loop-item
invariant-loop-item g l = Wrote {T = Unit {0}} {E = Failed} (g.O.Sink.log l.initial.sink) (g.O.Sink.log l.sink)
    (flat_map (reference_lines l.fn.name l.fn.attribute) (take (length l.yielded) (zip l.fn.named l.fn.texts))) (Ok tt)
