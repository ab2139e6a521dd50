-- The nodes of the marks so far are listed.
use Rattle.std.proofs.Common.{length, ◌-◌}
use Rattle.sch_compiled.proofs.MarkLemmas.{AreMarkedTo}
use Rattle.sch_compiled.proofs.marks.marked_nodes.Given as goal

abbrev pub invariant-loop-place : goal.invariant-loop-place
invariant-loop-place l = AreMarkedTo l.fn.patterns l.marks l.nodes l.from

abbrev pub decreases-loop-place : goal.decreases-loop-place
decreases-loop-place l = length l.marks - l.from
