-- The lines so far don't end the fragment.
use Rattle.std.proofs.Common.{length}
use Rattle.edit_script.proofs.PayloadLemmas.{ReadsOn}
use Rattle.edit_script.proofs.payload.find_payload.Given as goal

abbrev pub invariant-loop-line : goal.invariant-loop-line
invariant-loop-line l = ReadsOn l.bytes l.rest l.count

abbrev pub decreases-loop-line : goal.decreases-loop-line
decreases-loop-line l = length l.rest
