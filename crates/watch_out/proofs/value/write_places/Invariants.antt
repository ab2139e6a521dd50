-- The nodes so far were told.
use Rattle.std.proofs.Common.{take, Ok}
use Rattle.std.specs.List.{flat_map}
use Rattle.svrl_out.specs.Report.{Reported}
use Rattle.watch_out.specs.Lines.{at_line}
use Rattle.watch_out.proofs.value.write_places.Given as goal

abbrev pub invariant-loop-n : goal.invariant-loop-n
invariant-loop-n g l = Reported (g.O.Sink.log l.initial.sink) (g.O.Sink.log l.sink) (flat_map (at_line l.fn.locator) (take l.n-index l.fn.nodes)) (Ok tt)
