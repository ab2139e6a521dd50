-- Links and contents go where their numbers go.
use Rattle.doc_iso_laws.proofs.ChangesMoved.{changes-move}
use Rattle.doc_iso_laws.proofs.changes_move.Goals as goal

pub returns : goal.returns
returns c = changes-move
