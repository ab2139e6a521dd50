use Rattle.std.proofs.Common.{take, Ok}
use Rattle.sch_io.specs.Wrote.{Wrote, joined}
use Rattle.sch_io.specs.declared.error.Failed.{Failed}
use Rattle.sch_io.proofs.writing.write_pieces.Given as goal

abbrev pub invariant-loop-piece : goal.invariant-loop-piece
invariant-loop-piece g l =
    Wrote {T = Unit {0}} {E = Failed} (g.O.Sink.log l.initial.sink) (g.O.Sink.log l.sink) (joined (take l.piece-index l.pieces)) (Ok tt)
