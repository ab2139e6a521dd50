-- Names are in scope, texts are made of Chars, and no node has more kids than a place can count.
use Rattle.edit_undo_laws.proofs.EntriesFormed.{undoings-are-formed}
use Rattle.edit_undo_laws.proofs.undoings_are_formed.Goals as goal

pub returns : goal.returns
returns c = undoings-are-formed c.qnames_split.ensures c.subtrees_are_fragments.ensures
