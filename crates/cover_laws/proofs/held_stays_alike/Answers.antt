-- The nodes keep their kinds and their ways up.
use Rattle.cover_laws.proofs.HeldLemmas.{held-stays}
use Rattle.cover_laws.proofs.UpwardLemmas.{upward-alike}
use Rattle.cover_laws.proofs.held_stays_alike.Goals as goal

pub returns-clause-upward : goal.returns-clause-upward
returns-clause-upward c T U touched names form edits old new =
    upward-alike T U touched (c.edits_leave_the_rest.ensures T U touched form edits) names old new

pub returns-clause-held : goal.returns-clause-held
returns-clause-held c T U touched held reads form edits =
    held-stays T U touched (c.edits_leave_the_rest.ensures T U touched form edits) held reads
