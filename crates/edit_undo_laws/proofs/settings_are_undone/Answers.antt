-- Its name means it there, in the same scope.
use Rattle.edit_undo_laws.proofs.SettingUndone.{settings-are-undone}
use Rattle.edit_undo_laws.proofs.settings_are_undone.Goals as goal

pub returns : goal.returns
returns c = settings-are-undone c.attributes_are_given_back.ensures
