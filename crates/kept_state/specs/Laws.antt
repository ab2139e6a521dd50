-- What holds of what is kept: edits, runs of lets and runs of nodes under patterns each keep the state, so that a refresh that stops
-- anywhere leaves it (ISO/IEC 19757-3, clause 6).
use Rattle.std.specs.Prelude.{◌≡◌, ℕ, ◌+◌, ◌<◌, Bool, [], length, None, Some}
use Rattle.doc_tree.specs.cell.Cell.{Cell}
use Rattle.doc_tree.specs.Laws.{WellFormed}
use Rattle.doc_tree.specs.Table.{Table}
use Rattle.doc_edit_laws.specs.Along.{Edits}
use Rattle.xp_outcome.specs.Recorded.{Recorded}
use Rattle.sch_compiled.specs.declared.plan.Plan.{Plan}
use Rattle.sch_compiled.specs.Soundness.{IsSound}
use Rattle.edit_costs.specs.Locality.{RulesTyped}
use Rattle.edit_costs.specs.Dirty.{dirty_units, is_dirty}
use Rattle.edit_costs.specs.Units.{ValidationUnit, units_of}
use Rattle.kept_state.specs.Kept.{IsTyped, IsUnit, Keeps, Kept}
use Rattle.kept_state.specs.Running.{IsFresh, IsRight, NoLetIsStale, is_run, to_run}
use Rattle.kept_state.specs.Steps.{LiveBelow, Marks, RunsLet, RunsPair}

abbrev pub EditsKeep : Type 0
EditsKeep =
    (plan : Plan) (T U : Table) (touched : Cell → Bool) (old new : Kept) → WellFormed T → Edits T U touched → Keeps plan T old →
    Marks T touched old new → Keeps plan U new

abbrev pub PairsKeep : Type 0
PairsKeep = (plan : Plan) (T : Table) (p n : ℕ) (old new : Kept) → n < length T → Keeps plan T old → RunsPair plan T p n old new → Keeps plan T new

-- lets are run in order, so that the nodes of those before live
abbrev pub LetsKeep : Type 0
LetsKeep =
    (plan : Plan) (T : Table) (l : ℕ) (old new : Kept) → IsSound plan → WellFormed T → LiveBelow T old.lets l → Keeps plan T old →
    RunsLet plan T l old new → Keeps plan T new × LiveBelow T new.lets (l + 1)

-- where no let is stale, what is kept of each unit that isn't is right
abbrev pub KeptIsRight : Type 0
KeptIsRight =
    (plan : Plan) (T : Table) (kept : Kept) → IsSound plan → WellFormed T → Keeps plan T kept → NoLetIsStale plan kept →
    (unit : ValidationUnit) (held : Recorded) → IsUnit plan T unit → IsTyped plan unit → kept.reads unit ≡ Some held → IsRight plan T kept unit held

-- after edits of a tree whose units were all done, those are to be run that the edits left dirty
abbrev pub DirtyAreRun : Type 0
DirtyAreRun =
    (plan : Plan) (T U : Table) (touched : Cell → Bool) (old new : Kept) → IsSound plan → WellFormed T → Edits T U touched → IsFresh plan T old →
    Marks T touched old new → (unit : ValidationUnit) → IsUnit plan U unit → IsTyped plan unit →
    is_run plan U new unit ≡ is_dirty plan T U touched unit

-- the same of all units, where the rules of each pattern are well typed
abbrev pub DirtyUnitsAreRun : Type 0
DirtyUnitsAreRun =
    (plan : Plan) (T U : Table) (touched : Cell → Bool) (old new : Kept) → IsSound plan → WellFormed T → Edits T U touched → IsFresh plan T old →
    Marks T touched old new → ((p : ℕ) → p < length plan.patterns → RulesTyped plan p) → to_run plan U new ≡ dirty_units plan T U touched

-- where nothing is kept, the state of any tree is, and all units are to be run
abbrev pub NothingKeeps : Type 0
NothingKeeps =
    (plan : Plan) (T : Table) (kept : Kept) → kept.lets ≡ [] → ((unit : ValidationUnit) → kept.reads unit ≡ None) →
    Keeps plan T kept × (to_run plan T kept ≡ units_of plan T)
