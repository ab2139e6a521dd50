-- Undos, commands, the end and the fault, each in its turn.
use Rattle.edit_script.proofs.ItemLemmas.{command_turn, end_turn, fault_turn, undo_turn}
use Rattle.edit_script.proofs.laws.items_in_turn.Goals as goal

pub returns : goal.returns
returns c = record { undo = undo_turn; command = command_turn; end = end_turn; fault = fault_turn }
