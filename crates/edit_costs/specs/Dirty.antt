-- Which units edits leave as they were, and which are to be evaluated anew.
use Rattle.std.specs.Prelude.{Bool, true, false, not, ◌||◌, List, filter}
use Rattle.std.specs.List.{list_any}
use Rattle.doc_tree.specs.cell.Cell.{Cell}
use Rattle.doc_tree.specs.Table.{Table, is_live}
use Rattle.xp_outcome.specs.Cells.{cells_of}
use Rattle.xp_outcome.specs.Evaluation.{Read, cell, names_along, variable}
use Rattle.xp_outcome.specs.Slots.{in_slot}
use Rattle.sch_compiled.specs.declared.plan.Plan.{Plan}
use Rattle.sch_locality_laws.specs.Units.{lets_of}
use Rattle.edit_costs.specs.SameOutcome.{same_outcome}
use Rattle.edit_costs.specs.Units.{ValidationUnit, in_force, under, reads_of, units_of}

-- a node that doesn't live in the earlier tree makes a new unit
abbrev pub is_new : Table → ValidationUnit → Bool
is_new T (in_force slot) = false
is_new T (under p n) = not (is_live T n)

-- a cell that is read in a tree was touched, the names along an axis one by one
abbrev pub is_touched : Table → (Cell → Bool) → Read → Bool
is_touched T touched r = list_any touched (cells_of T r)

-- a let that is read has another outcome in a later tree
abbrev pub is_changed : Plan → Table → Table → Read → Bool
is_changed plan T U (cell c) = false
is_changed plan T U (names_along axis n) = false
is_changed plan T U (variable slot) = not (same_outcome (in_slot (lets_of plan T) slot) (in_slot (lets_of plan U) slot))

-- a unit is dirty after edits that made U of T and touched some cells: it is new, or what it reads in T was touched, or a let that
-- it reads has changed
abbrev pub is_dirty : Plan → Table → Table → (Cell → Bool) → ValidationUnit → Bool
is_dirty plan T U touched unit = is_new T unit || list_any (λ r. is_touched T touched r || is_changed plan T U r) (reads_of plan T unit)

-- the dirty units of the later tree
abbrev pub dirty_units : Plan → Table → Table → (Cell → Bool) → List ValidationUnit
dirty_units plan T U touched = filter (is_dirty plan T U touched) (units_of plan U)
