use Rattle.std.proofs.Common.{◌≡◌, ◌++◌, length}
use Rattle.pyx_core.proofs.reading.take_all.Given as goal

abbrev pub invariant-loop-event : goal.invariant-loop-event
invariant-loop-event l = l.events ++ l.reader.waiting ≡ l.fn.reader.waiting

abbrev pub decreases-loop-event : goal.decreases-loop-event
decreases-loop-event l = length l.reader.waiting
