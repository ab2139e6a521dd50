-- Why a command isn't done: the errors of the tree's own edits, and of a piece, as errors of commands.
use Rattle.doc_tree.specs.declared.refusal.EditError.{EditError}
use Rattle.doc_tree.specs.declared.refusal.EditError.TheVariants as edit
use Rattle.name_scopes.specs.declared.refusal.PieceError.{PieceError}
use Rattle.name_scopes.specs.declared.refusal.PieceError.TheVariants as piece
use Rattle.edit_commands.specs.declared.refusal.ApplyError.{ApplyError}
use Rattle.edit_commands.specs.declared.refusal.ApplyError.TheVariants.{Refused, Memory}

-- an error of an edit of the tree
abbrev pub of_edit : EditError → ApplyError
of_edit (edit.Refused reason) = Refused reason
of_edit edit.Memory = Memory

-- an error of a piece
abbrev pub of_piece : PieceError → ApplyError
of_piece (piece.Refused reason) = Refused reason
of_piece piece.Memory = Memory
