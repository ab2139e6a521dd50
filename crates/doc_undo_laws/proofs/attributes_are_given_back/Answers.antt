-- All but the attributes stays, and these say the same lines.
use Rattle.doc_undo_laws.proofs.AttributesBack.{attributes-are-given-back}
use Rattle.doc_undo_laws.proofs.attributes_are_given_back.Goals as goal

pub returns : goal.returns
returns c = attributes-are-given-back
