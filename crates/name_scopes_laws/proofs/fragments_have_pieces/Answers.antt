-- The events of the fragment lead to it.
use Rattle.name_scopes_laws.proofs.PieceTrees.{fragments-have-pieces}
use Rattle.name_scopes_laws.proofs.fragments_have_pieces.Goals as goal

pub returns : goal.returns
returns c = fragments-have-pieces
