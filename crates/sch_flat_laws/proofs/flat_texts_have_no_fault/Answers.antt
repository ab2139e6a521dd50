-- No event of the document has a fault, and no line of its text.
use Rattle.sch_flat_laws.proofs.Texts.FlatWalks.{flat_text_free}
use Rattle.sch_flat_laws.proofs.flat_texts_have_no_fault.Goals as goal

pub returns : goal.returns
returns c = flat_text_free
