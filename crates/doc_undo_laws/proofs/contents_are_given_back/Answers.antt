-- An entry that is changed and changed back.
use Rattle.doc_undo_laws.proofs.ContentBack.{renamed-back, said-back}
use Rattle.doc_undo_laws.proofs.contents_are_given_back.Goals as goal

pub returns : goal.returns
returns c = record { saying = said-back; renaming = renamed-back }
