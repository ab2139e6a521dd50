-- Each goes and comes by its own name, and there is room for as much as was there.
use Rattle.edit_undo_laws.proofs.UnsettingUndone.{unsettings-are-undone}
use Rattle.edit_undo_laws.proofs.unsettings_are_undone.Goals as goal

pub returns : goal.returns
returns c = unsettings-are-undone c.qnames_split.ensures c.attributes_are_given_back.ensures
