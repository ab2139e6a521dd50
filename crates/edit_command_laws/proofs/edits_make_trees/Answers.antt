-- A fragment that comes has a piece.
use Rattle.edit_command_laws.proofs.SomeEdit.{edits-make-trees}
use Rattle.edit_command_laws.proofs.edits_make_trees.Goals as goal

pub returns : goal.returns
returns c = edits-make-trees c.fragments_have_pieces.ensures
