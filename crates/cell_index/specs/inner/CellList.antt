-- The cells of a list, by how they are held.
use Rattle.std.specs.Prelude.{List, [], ◌∷◌}
use Rattle.doc_tree.specs.cell.Cell.{Cell}
use Rattle.cell_index.specs.declared.cell_list.HeldCells.{HeldCells}
use Rattle.cell_index.specs.declared.cell_list.HeldCells.TheVariants.{Nothing, One, Two, Three, Many}

abbrev pub cells_held : HeldCells → List Cell
cells_held Nothing = []
cells_held (One cell) = cell ∷ []
cells_held (Two cells) = cells
cells_held (Three cells) = cells
cells_held (Many cells) = cells.items
