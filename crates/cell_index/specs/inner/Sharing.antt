-- Units share sets of cells: the number of the set of each unit, and the cells of each set. Sets are numbered from 1 on; 0 is no set.
use Rattle.std.specs.Prelude.{◌≡◌, ℕ, zero, suc, ◌==◌, ◌&&◌, Bool, true, List, [], if◌then◌else◌, map, nat_lt, slice_index_or, slice_set}
use Rattle.doc_tree.specs.cell.Cell.{Cell}
use Rattle.cell_index.specs.Cells.{is_among}
use Rattle.cell_index.specs.declared.chains.Chains.{Chains}
use Rattle.cell_index.specs.inner.CellNumbers.{cell_number}
use Rattle.cell_index.specs.inner.Chains.{InChain}

-- the cells of a set
abbrev pub cells_of_set : List (List Cell) → ℕ → List Cell
cells_of_set sets zero = []
cells_of_set sets (suc place) = slice_index_or sets place []

-- whether a set has a cell
abbrev pub set_has : List (List Cell) → ℕ → Cell → Bool
set_has sets set c = is_among (cells_of_set sets set) c

-- the set of a unit
abbrev pub set_of : List ℕ → ℕ → ℕ
set_of of_unit unit = slice_index_or of_unit unit 0

-- whether a unit has a set
abbrev pub is_member : List ℕ → ℕ → ℕ → Bool
is_member of_unit set unit = nat_lt 0 set && (set_of of_unit unit == set)

-- the cells of each unit
abbrev pub held_of : List (List Cell) → List ℕ → List (List Cell)
held_of sets of_unit = map (cells_of_set sets) of_unit

-- a set has other cells than before
abbrev pub Puts : ℕ → List Cell → List (List Cell) → List (List Cell) → Type 0
Puts set own old new = (s : ℕ) → cells_of_set new s ≡ (if s == set then own else cells_of_set old s)

-- a set has no cell any more
abbrev pub cleared : List (List Cell) → ℕ → List (List Cell)
cleared sets zero = sets
cleared sets (suc place) = slice_set sets place []

-- a unit has another set than before
abbrev pub Joins : ℕ → ℕ → List ℕ → List ℕ → Type 0
Joins unit set old new = (u : ℕ) → set_of new u ≡ (if u == unit then set else set_of old u)

-- each unit has the set that it had
abbrev pub KeepsSets : List ℕ → List ℕ → Type 0
KeepsSets old new = (u : ℕ) → set_of new u ≡ set_of old u

-- the set of each unit has the cells that it had
abbrev pub KeepsCells : List ℕ → List (List Cell) → List (List Cell) → Type 0
KeepsCells of_unit old new = (u : ℕ) → cells_of_set new (set_of of_unit u) ≡ cells_of_set old (set_of of_unit u)

-- a set is a reader of some cells
abbrev pub Reads : Chains → ℕ → List Cell → Type 0
Reads readers set cells = (c : Cell) → is_among cells c ≡ true → InChain readers (cell_number c) set

-- each set is a reader of the cells that it has, and perhaps of more
abbrev pub AreReaders : List (List Cell) → Chains → Type 0
AreReaders sets readers = (set : ℕ) (c : Cell) → set_has sets set c ≡ true → InChain readers (cell_number c) set

-- each unit is a member of its set, and perhaps of more
abbrev pub AreMembers : List ℕ → Chains → Type 0
AreMembers of_unit members = (set unit : ℕ) → is_member of_unit set unit ≡ true → InChain members set unit
