-- Which units are to be run over a tree, when what is kept of a unit is right, and what a refresh leaves, wherever it stops.
use Rattle.std.specs.Prelude.{◌≡◌, ℕ, ◌⊎◌, ◌<◌, Bool, true, false, is_none, length, List, filter, Some}
use Rattle.doc_tree.specs.Table.{Table}
use Rattle.xp_outcome.specs.Recorded.{Recorded}
use Rattle.xp_outcome.specs.Slots.{in_slot}
use Rattle.sch_compiled.specs.declared.plan.Plan.{Plan}
use Rattle.sch_units.specs.Units.{lets_of}
use Rattle.sch_units.specs.Validity.{pair_outcome}
use Rattle.edit_costs.specs.Units.{ValidationUnit, in_force, under, reads_of, units_of}
use Rattle.cover_laws.specs.Covering.{HeldAlike}
use Rattle.kept_state.specs.Kept.{IsUnit, Keeps, Kept, noted}
use Rattle.kept_state.specs.Steps.{StaysAs, differs, unless_changed}

-- nothing is kept of what the unit read
abbrev pub is_stale : Kept → ValidationUnit → Bool
is_stale kept unit = is_none (kept.reads unit)

-- a unit is to be run where it is stale, or read a let whose outcome in the tree isn't the kept one
abbrev pub is_run : Plan → Table → Kept → ValidationUnit → Bool
is_run plan T kept unit = is_none (unless_changed (differs kept.lets (lets_of plan T)) (kept.reads unit))

abbrev pub to_run : Plan → Table → Kept → List ValidationUnit
to_run plan T kept = filter (is_run plan T kept) (units_of plan T)

abbrev pub NoLetIsStale : Plan → Kept → Type 0
NoLetIsStale plan kept = (slot : ℕ) → slot < length plan.lets → is_stale kept (in_force slot) ≡ false

-- the kept outcome of a unit is that of the tree
abbrev pub GivesHere : Plan → Table → Kept → ValidationUnit → Type 0
GivesHere plan T kept (in_force slot) = in_slot kept.lets slot ≡ in_slot (lets_of plan T) slot
GivesHere plan T kept (under p n) = kept.outcomes p n ≡ Some (pair_outcome plan T p n)

-- so is what it read
pub record IsRight (plan : Plan) (T : Table) (kept : Kept) (unit : ValidationUnit) (held : Recorded) : Type 0 where
  pub gives : GivesHere plan T kept unit
  pub read : HeldAlike T held (noted (reads_of plan T unit))

-- a unit isn't stale, and what is kept of it is right
pub record IsDone (plan : Plan) (T : Table) (kept : Kept) (unit : ValidationUnit) : Type 0 where
  pub held : Recorded
  pub is : kept.reads unit ≡ Some held
  pub right : IsRight plan T kept unit held

-- all units are done
pub record IsFresh (plan : Plan) (T : Table) (kept : Kept) : Type 0 where
  pub keeps : Keeps plan T kept
  pub done : (unit : ValidationUnit) → IsUnit plan T unit → IsDone plan T kept unit

-- of the units that were to be run each is done, or stale, or as it was; the others are as they were
pub record GoesOn (plan : Plan) (T : Table) (old new : Kept) : Type 0 where
  pub keeps : Keeps plan T new
  pub some : (unit : ValidationUnit) → IsUnit plan T unit → is_run plan T old unit ≡ true →
      IsDone plan T new unit ⊎ ((is_stale new unit ≡ true) ⊎ StaysAs old new unit)
  pub others : (unit : ValidationUnit) → IsUnit plan T unit → is_run plan T old unit ≡ false → StaysAs old new unit
