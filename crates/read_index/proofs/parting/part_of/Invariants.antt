-- The cells so far are those of the part among the cells so far.
use Rattle.std.proofs.Common.{◌≡◌, ◌&&◌, take}
use Rattle.doc_tree.specs.cell.Cell.{Cell}
use Rattle.cell_index.specs.Cells.{is_among}
use Rattle.read_index.specs.inner.Parting.{is_of_part}
use Rattle.read_index.proofs.parting.part_of.Given as goal

abbrev pub invariant-loop-cell : goal.invariant-loop-cell
invariant-loop-cell l = (c : Cell) → is_among l.part.items c ≡ (is_of_part l.names c && is_among (take l.cell-index l.cells) c)
