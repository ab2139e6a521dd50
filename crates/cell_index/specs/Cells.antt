-- Lists of cells.
use Rattle.std.specs.Prelude.{ℕ, ◌==◌, Bool, false, List}
use Rattle.std.specs.List.{list_any}
use Rattle.doc_tree.specs.cell.Cell.{Cell}
use Rattle.doc_tree.specs.cell.Cell.TheVariants.{Kids, Shape, Attrs, Value, Text, Name}

-- whether two cells are one
abbrev pub is_cell : Cell → Cell → Bool
is_cell (Kids n) (Kids m) = n == m
is_cell (Shape n) (Shape m) = n == m
is_cell (Attrs n) (Attrs m) = n == m
is_cell (Value n) (Value m) = n == m
is_cell (Text n) (Text m) = n == m
is_cell (Name n) (Name m) = n == m
is_cell c d = false

-- whether a cell is one of a list
abbrev pub is_among : List Cell → Cell → Bool
is_among cells c = list_any (is_cell c) cells
