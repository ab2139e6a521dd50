-- By kinds of commands.
use Rattle.edit_undo_laws.proofs.CommandsUndone.{commands-are-undone}
use Rattle.edit_undo_laws.proofs.commands_are_undone.Goals as goal

pub returns : goal.returns
returns c =
    commands-are-undone c.inserts_are_undone.ensures c.texts_are_undone.ensures c.settings_are_undone.ensures c.unsettings_are_undone.ensures
    c.renames_are_undone.ensures c.attribute_renames_are_undone.ensures c.lone_deletions_are_undone.ensures c.merging_deletions_are_undone.ensures
