use Rattle.sch_io.proofs.Fronts.{pieces_more, pieces_stopped}
use Rattle.sch_io.proofs.writing.write_pieces.Goals as goal

pub returns-in_err-write_all : goal.returns-in_err-write_all
returns-in_err-write_all g c = pieces_stopped _ _ _ c.as_bytes.ensures.value c.loop-piece-test.true c.loop-piece.invariant c.in_err-write_all.ensures c.from_residual.ensures.0

pub loop-piece-preserved : goal.loop-piece-preserved
loop-piece-preserved g c = pieces_more _ _ _ c.as_bytes.ensures.value c.loop-piece-test.true c.loop-piece.invariant c.in_ok-write_all.ensures
