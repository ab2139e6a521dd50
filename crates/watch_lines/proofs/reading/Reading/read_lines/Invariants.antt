-- The lines so far were read.
use Rattle.std.proofs.Common.{length}
use Rattle.watch_lines.proofs.LineLemmas.{Came}
use Rattle.watch_lines.proofs.reading.Reading.read_lines.Given as goal

abbrev pub invariant-loop-line : goal.invariant-loop-line
invariant-loop-line l = Came l.fn.bytes l.number l.rest l.self

abbrev pub decreases-loop-line : goal.decreases-loop-line
decreases-loop-line l = length l.rest
