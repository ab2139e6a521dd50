-- The numbers of cells: six for each node.
use Rattle.std.specs.Prelude.{ℕ, ◌+◌, ◌*◌}
use Rattle.doc_tree.specs.cell.Cell.{Cell}
use Rattle.doc_tree.specs.cell.Cell.TheVariants.{Kids, Shape, Attrs, Value, Text, Name}

-- the number of a cell
abbrev pub cell_number : Cell → ℕ
cell_number (Kids n) = 6 * n
cell_number (Shape n) = 6 * n + 1
cell_number (Attrs n) = 6 * n + 2
cell_number (Value n) = 6 * n + 3
cell_number (Text n) = 6 * n + 4
cell_number (Name n) = 6 * n + 5
