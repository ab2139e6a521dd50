-- The cells that were read, each of them one by one.
use Rattle.std.specs.Prelude.{◌≡◌, List}
use Rattle.std.specs.FinSet.{from_list, items, union}
use Rattle.std.specs.List.{flat_map}
use Rattle.doc_tree.specs.cell.Cell.{Cell}
use Rattle.doc_tree.specs.Table.{Table}
use Rattle.xp_outcome.specs.declared.names_along.NamesAlong.{NamesAlong}
use Rattle.xp_outcome.specs.Cells.{cells_of}
use Rattle.xp_outcome.specs.Evaluation.{Read, names_along}
use Rattle.xp_outcome.specs.Recorded.{CellSet, Recorded, note_all, nothing_read}

-- the names that an item stands for in a tree
abbrev pub names_for : Table → NamesAlong → List Cell
names_for T along = cells_of T (names_along along.axis along.node)

-- every cell that a recorder holds: those that were read one by one, and the names along the axes that it holds
abbrev pub every_cell : Table → Recorded → CellSet
every_cell T held = union held.cells (from_list (flat_map (names_for T) (items held.names)))

-- once some reads were noted, these are the cells of the reads
abbrev pub NotedCellsAreRead : Type 0
NotedCellsAreRead = (T : Table) (reads : List Read) → every_cell T (note_all nothing_read reads) ≡ from_list (flat_map (cells_of T) reads)
