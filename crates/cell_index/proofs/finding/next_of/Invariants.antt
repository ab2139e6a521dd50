-- The hints that are dropped lead to no unit that has the set.
use Rattle.cell_index.specs.inner.Chains.{newest}
use Rattle.cell_index.specs.inner.Sharing.{AreMembers}
use Rattle.cell_index.proofs.finding.next_of.Given as goal

abbrev pub invariant-loop-unit : goal.invariant-loop-unit
invariant-loop-unit l = AreMembers l.of_unit l.fn.members → AreMembers l.of_unit l.members

abbrev pub decreases-loop-unit : goal.decreases-loop-unit
decreases-loop-unit l = newest l.members l.key
