-- The set is a reader of the cells so far, and each item stays in its chain.
use Rattle.std.proofs.Common.{take}
use Rattle.cell_index.specs.inner.Chains.{Keeps}
use Rattle.cell_index.specs.inner.Sharing.{Reads}
use Rattle.cell_index.proofs.cell_sets.add_reader.Given as goal

abbrev pub invariant-loop-cell : goal.invariant-loop-cell
invariant-loop-cell l = record {
  keeps : Keeps l.fn.readers l.readers;
  added : Reads l.readers l.set (take l.cell-index l.cells);
}
