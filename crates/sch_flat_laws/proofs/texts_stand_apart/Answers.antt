-- An element stands between the texts of two others.
use Rattle.sch_flat_laws.proofs.Document.JoinedLemmas.{texts_apart}
use Rattle.sch_flat_laws.proofs.texts_stand_apart.Goals as goal

pub returns : goal.returns
returns c = texts_apart
