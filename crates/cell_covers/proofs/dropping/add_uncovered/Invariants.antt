-- Those of the cells so far that aren't covered are held.
use Rattle.std.proofs.Common.{◌≡◌, take}
use Rattle.std.specs.FinSet.{from_list}
use Rattle.cell_covers.specs.inner.Dropping.{Leaves, is_covered}
use Rattle.cell_covers.proofs.dropping.add_uncovered.Given as goal

abbrev pub invariant-loop-cell : goal.invariant-loop-cell
invariant-loop-cell l = record {
  cells : Leaves (is_covered l.tree.nodes l.covering.shapes.numbers.items l.covering.texts.numbers.items) (from_list (take l.cell-index l.cells)) l.held.cells;
  names : l.held.names ≡ l.initial.held.names;
  lets : l.held.lets ≡ l.initial.held.lets;
}
