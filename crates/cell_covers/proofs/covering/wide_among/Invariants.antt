-- The nodes of the wide cells so far are noted.
use Rattle.std.proofs.Common.{◌≡◌, take}
use Rattle.std.specs.List.{flat_map}
use Rattle.cell_covers.specs.inner.Dropping.{shape_in, text_in}
use Rattle.cell_covers.proofs.covering.wide_among.Given as goal

abbrev pub invariant-loop-cell : goal.invariant-loop-cell
invariant-loop-cell l = record {
  shapes : l.wide.shapes.items ≡ flat_map shape_in (take l.cell-index l.cells);
  texts : l.wide.texts.items ≡ flat_map text_in (take l.cell-index l.cells);
}
