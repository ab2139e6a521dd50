-- What is still to come makes the same of what is held as all does of what was.
use Rattle.std.proofs.Common.{◌≡◌, drop}
use Rattle.cell_covers.specs.inner.Naming.{with_names}
use Rattle.cell_covers.proofs.names.add_names.Given as goal

abbrev pub invariant-loop-along : goal.invariant-loop-along
invariant-loop-along l = with_names l.tree.nodes l.held (drop l.along-index l.names) ≡ with_names l.tree.nodes l.initial.held l.names
