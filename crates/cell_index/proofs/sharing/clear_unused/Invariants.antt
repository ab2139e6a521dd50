-- The sets that were cleared had no unit.
use Rattle.cell_index.specs.inner.Sharing.{KeepsCells}
use Rattle.cell_index.proofs.sharing.clear_unused.Given as goal

abbrev pub invariant-loop-place : goal.invariant-loop-place
invariant-loop-place l = KeepsCells l.units l.fn.sets l.sets
