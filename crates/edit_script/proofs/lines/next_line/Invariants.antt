-- Empty lines were skipped.
use Rattle.std.proofs.Common.{length}
use Rattle.edit_script.proofs.CutLemmas.{Skips}
use Rattle.edit_script.proofs.lines.next_line.Given as goal

abbrev pub invariant-loop-line : goal.invariant-loop-line
invariant-loop-line l = Skips l.fn.from l.fn.bytes l.number l.rest

abbrev pub decreases-loop-line : goal.decreases-loop-line
decreases-loop-line l = length l.rest
