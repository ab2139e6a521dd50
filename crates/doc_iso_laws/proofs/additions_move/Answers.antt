-- What stood goes where it went; what is new has the same lines.
use Rattle.doc_iso_laws.proofs.AdditionsMoved.{additions-move}
use Rattle.doc_iso_laws.proofs.additions_move.Goals as goal

pub returns : goal.returns
returns c = additions-move
