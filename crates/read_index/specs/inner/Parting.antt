-- The names of nodes, parted from other cells.
use Rattle.std.specs.Prelude.{◌≡◌, ℕ, ◌==◌, Bool, true, false, not, ◌&&◌, ◌||◌, List}
use Rattle.doc_tree.specs.cell.Cell.{Cell}
use Rattle.doc_tree.specs.cell.Cell.TheVariants.{Name}
use Rattle.cell_index.specs.Cells.{is_among}
use Rattle.cell_index.specs.Index.{has}

-- whether a cell is the name of a node
abbrev pub is_name : Cell → Bool
is_name (Name n) = true
is_name c = false

-- whether a cell is one of the names, or one of the others
abbrev pub is_of_part : Bool → Cell → Bool
is_of_part true c = is_name c
is_of_part false c = not (is_name c)

-- in an index a unit has the names among some cells too, or the others
abbrev pub AddsPart : Bool → ℕ → List Cell → List (List Cell) → List (List Cell) → Type 0
AddsPart names unit cells old new = (u : ℕ) (c : Cell) → has new u c ≡ (has old u c || ((u == unit) && (is_of_part names c && is_among cells c)))

-- whether a unit has a cell in one of two indexes
abbrev pub has_either : List (List Cell) → List (List Cell) → ℕ → Cell → Bool
has_either held named u c = has held u c || has named u c

-- in two indexes together a unit has some cells too
abbrev pub AddsToBoth : ℕ → List Cell → List (List Cell) → List (List Cell) → List (List Cell) → List (List Cell) → Type 0
AddsToBoth unit cells old old_named new new_named =
    (u : ℕ) (c : Cell) → has_either new new_named u c ≡ (has_either old old_named u c || ((u == unit) && is_among cells c))
