-- The nodes keep their kinds and their ways up.
use Rattle.cover_laws.proofs.AlikeLemmas.{stay-alike}
use Rattle.cover_laws.proofs.alike_stay.Goals as goal

pub returns : goal.returns
returns c T U touched held reads form edits = stay-alike T U touched held reads (c.edits_leave_the_rest.ensures T U touched form edits)
