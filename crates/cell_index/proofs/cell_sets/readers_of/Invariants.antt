-- The sets so far are readers of their cells.
use Rattle.std.proofs.Common.{ℕ, ◌<◌, ◌+◌}
use Rattle.cell_index.specs.inner.Sharing.{Reads, cells_of_set}
use Rattle.cell_index.proofs.cell_sets.readers_of.Given as goal

abbrev pub invariant-loop-place : goal.invariant-loop-place
invariant-loop-place l = (set : ℕ) → set < l.place + 1 → Reads l.readers set (cells_of_set l.sets set)
