-- The node and the piece are one, and so is what is made of them.
use Rattle.edit_command_laws.proofs.OneEdit.{one-edit}
use Rattle.edit_command_laws.proofs.one_edit.Goals as goal

pub returns : goal.returns
returns c = one-edit c.well_formed_is_enough.ensures c.one_table.ensures
