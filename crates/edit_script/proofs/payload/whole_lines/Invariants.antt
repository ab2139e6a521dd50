-- The lines so far were copied.
use Rattle.std.proofs.Common.{length}
use Rattle.edit_script.proofs.PayloadLemmas.{Copies}
use Rattle.edit_script.proofs.payload.whole_lines.Given as goal

abbrev pub invariant-loop-line : goal.invariant-loop-line
invariant-loop-line l = Copies l.bytes l.rest l.text.items l.count

abbrev pub decreases-loop-line : goal.decreases-loop-line
decreases-loop-line l = length l.rest
