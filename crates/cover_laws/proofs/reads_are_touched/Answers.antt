-- Read by read.
use Rattle.cover_laws.proofs.HeldLemmas.{reads-touched}
use Rattle.cover_laws.proofs.reads_are_touched.Goals as goal

pub returns : goal.returns
returns c = reads-touched
