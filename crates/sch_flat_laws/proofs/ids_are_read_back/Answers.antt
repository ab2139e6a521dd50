-- Each id stands between two spaces.
use Rattle.sch_flat_laws.proofs.Document.IdLemmas.{ids_read_back}
use Rattle.sch_flat_laws.proofs.ids_are_read_back.Goals as goal

pub returns : goal.returns
returns c = ids_read_back
