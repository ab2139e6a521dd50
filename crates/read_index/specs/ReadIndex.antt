-- Which units have read a cell, or the names along an axis from a node.
use Rattle.std.specs.Prelude.{◌≡◌, ℕ, ◌==◌, Bool, false, not, ◌&&◌, ◌||◌, List, ◌++◌, map}
use Rattle.doc_tree.specs.cell.Cell.{Cell}
use Rattle.xp_outcome.specs.declared.names_along.NamesAlong.{NamesAlong}
use Rattle.xp_outcome.specs.Evaluation.{Read, cell, names_along, variable}
use Rattle.cell_index.specs.Cells.{is_among}
use Rattle.cell_index.specs.Index.{cells_of}
use Rattle.read_index.specs.declared.read_index.ReadIndex.{ReadIndex}
use Rattle.read_index.specs.Names.{is_named}
use Rattle.read_index.specs.inner.Filing.{far_names, near_names}

-- the cells that a unit has read: the names of nodes among many are kept apart from the others
abbrev pub cells_read : ReadIndex → ℕ → List Cell
cells_read index unit = cells_of index.cells unit ++ cells_of index.named unit

-- the axes and nodes along which a unit has read names
abbrev pub names_read : ReadIndex → ℕ → List NamesAlong
names_read index unit = map near_names (cells_of index.near unit) ++ map far_names (cells_of index.far unit)

-- whether something is among some cells and names along axes
abbrev pub is_one_of : List Cell → List NamesAlong → Read → Bool
is_one_of cells names (cell c) = is_among cells c
is_one_of cells names (names_along axis n) = is_named names (record { axis = axis; node = n })
is_one_of cells names (variable slot) = false

-- whether a unit has read something
abbrev pub has_read : ReadIndex → ℕ → Read → Bool
has_read index unit r = is_one_of (cells_read index unit) (names_read index unit) r

-- each unit has read what it had
abbrev pub Stays : ReadIndex → ReadIndex → Type 0
Stays old new = (u : ℕ) (r : Read) → has_read new u r ≡ has_read old u r

-- a unit has read some cells and names along axes too
abbrev pub Adds : ℕ → List Cell → List NamesAlong → ReadIndex → ReadIndex → Type 0
Adds unit cells names old new = (u : ℕ) (r : Read) → has_read new u r ≡ (has_read old u r || ((u == unit) && is_one_of cells names r))

-- a unit has read nothing any more
abbrev pub Removes : ℕ → ReadIndex → ReadIndex → Type 0
Removes unit old new = (u : ℕ) (r : Read) → has_read new u r ≡ (has_read old u r && not (u == unit))
