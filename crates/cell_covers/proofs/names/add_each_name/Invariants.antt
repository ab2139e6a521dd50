-- What is still to come makes the same of what is held as all does of what was.
use Rattle.std.proofs.Common.{◌≡◌, drop}
use Rattle.cell_covers.specs.inner.Naming.{with_each_name}
use Rattle.cell_covers.proofs.names.add_each_name.Given as goal

abbrev pub invariant-loop-node : goal.invariant-loop-node
invariant-loop-node l = with_each_name l.tree.nodes l.held (drop l.node-index l.nodes) ≡ with_each_name l.tree.nodes l.initial.held l.nodes
