-- What two changes keep, both together keep.
use Rattle.doc_edit_laws.proofs.Composing.{compose}
use Rattle.doc_edit_laws.proofs.agreement_composes.Goals as goal

pub returns : goal.returns
returns c T U V touched later first before after = compose T U V touched later first before after
