-- The watches so far were told.
use Rattle.std.proofs.Common.{take, Ok}
use Rattle.std.specs.List.{flat_map}
use Rattle.svrl_out.specs.Report.{Reported}
use Rattle.xp_watch.specs.Watched.{watches_of}
use Rattle.watch_out.specs.Lines.{watch_lines}
use Rattle.watch_out.proofs.state.write_watches.Given as goal

abbrev pub invariant-loop-k : goal.invariant-loop-k
invariant-loop-k g l = Reported (g.O.Sink.log l.initial.sink) (g.O.Sink.log l.sink)
    (flat_map (watch_lines l.fn.watch.tree.nodes l.fn.watch.expressions) (take l.k (watches_of l.fn.watch.expressions))) (Ok tt)
