-- A touched cell that isn't held is covered by one that is, also after the edits before.
use Rattle.cover_laws.proofs.AlikeLemmas.{covering-along, touched-alike}
use Rattle.cover_laws.proofs.edits_touch_alike.Goals as goal

pub returns : goal.returns
returns c T U touched held reads form edits live =
    touched-alike touched T held reads
    (λ d e there. covering-along c.edits_leave_the_rest.ensures c.covering_is_touched.ensures T U touched form edits d e (live e there))
