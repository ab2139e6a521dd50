-- The hints that are dropped lead to no set that has the cell.
use Rattle.cell_index.specs.inner.Chains.{newest}
use Rattle.cell_index.specs.inner.Sharing.{AreReaders}
use Rattle.cell_index.proofs.finding.next_with.Given as goal

abbrev pub invariant-loop-set : goal.invariant-loop-set
invariant-loop-set l = AreReaders l.sets l.fn.readers → AreReaders l.sets l.readers

abbrev pub decreases-loop-set : goal.decreases-loop-set
decreases-loop-set l = newest l.readers l.key
