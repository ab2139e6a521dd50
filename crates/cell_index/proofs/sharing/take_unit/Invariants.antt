-- The sets that were cleared had no unit.
use Rattle.std.proofs.Common.{◌≡◌}
use Rattle.std.specs.List.{count_by}
use Rattle.cell_index.specs.Cells.{is_among}
use Rattle.cell_index.specs.inner.Sharing.{KeepsCells}
use Rattle.cell_index.proofs.sharing.take_unit.Given as goal

abbrev pub invariant-loop-set : goal.invariant-loop-set
invariant-loop-set l = record {
  units : l.units ≡ l.fn.units;
  cells : KeepsCells l.units l.fn.sets l.sets;
}

abbrev pub decreases-loop-set : goal.decreases-loop-set
decreases-loop-set l = count_by (λ own. is_among own l.cell) l.sets
