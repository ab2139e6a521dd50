-- The part that it is.
use Rattle.sch_flat.proofs.parts.PartInDocument.write.Goals as goal

pub returns-in-ValueOf : goal.returns-in-ValueOf
returns-in-ValueOf c = rw c.in-ValueOf.is c.empty.ensures
