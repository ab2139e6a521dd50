-- Which units have a cell, by the cells that each unit has.
use Rattle.std.specs.Prelude.{◌≡◌, ℕ, ◌==◌, Bool, true, not, ◌&&◌, ◌||◌, List, [], slice_index_or}
use Rattle.std.specs.List.{Contains, list_any}
use Rattle.std.specs.List.Sorted.{IsStrictlyIncreasing}
use Rattle.doc_tree.specs.cell.Cell.{Cell}
use Rattle.cell_index.specs.Cells.{is_among}

-- the cells that a unit has: none where it was never added or was removed
abbrev pub cells_of : List (List Cell) → ℕ → List Cell
cells_of held unit = slice_index_or held unit []

-- whether a unit has a cell
abbrev pub has : List (List Cell) → ℕ → Cell → Bool
has held unit c = is_among (cells_of held unit) c

-- each unit has the cells that it had
abbrev pub Stays : List (List Cell) → List (List Cell) → Type 0
Stays old new = (u : ℕ) (c : Cell) → has new u c ≡ has old u c

-- a unit has some cells too
abbrev pub Adds : ℕ → List Cell → List (List Cell) → List (List Cell) → Type 0
Adds unit cells old new = (u : ℕ) (c : Cell) → has new u c ≡ (has old u c || ((u == unit) && is_among cells c))

-- a unit has no cell any more
abbrev pub Removes : ℕ → List (List Cell) → List (List Cell) → Type 0
Removes unit old new = (u : ℕ) (c : Cell) → has new u c ≡ (has old u c && not (u == unit))

-- the units that have one of some cells, in the order of their numbers, each once
pub record AreThoseWith (held : List (List Cell)) (cells : List Cell) (units : List ℕ) : Type 0 where
  pub rising : IsStrictlyIncreasing units
  pub each : (u : ℕ) → Contains units u → list_any (has held u) cells ≡ true
  pub all : (u : ℕ) → list_any (has held u) cells ≡ true → Contains units u
