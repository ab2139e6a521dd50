-- What it costs to evaluate units.
use Rattle.std.specs.Prelude.{◌≡◌, ℕ, ◌+◌, ◌≤◌, false, List, length, sum_by}
use Rattle.std.specs.List.{list_any}
use Rattle.doc_tree.specs.Table.{Table}
use Rattle.sch_compiled.specs.declared.plan.Plan.{Plan}
use Rattle.edit_costs.specs.Units.{ValidationUnit, has_fault, work_of}

-- the visits of the evaluation of units
abbrev pub cost_of : Plan → Table → List ValidationUnit → ℕ
cost_of plan T units = sum_by (work_of plan T) units

-- a count rose for the evaluation of units: by their number at least, by their visits at most, and by exactly these where none of
-- them meets a fault
pub record Raised (plan : Plan) (T : Table) (units : List ValidationUnit) (before after : ℕ) : Type 0 where
  pub at_least : before + length units ≤ after
  pub at_most : after ≤ before + cost_of plan T units
  pub exactly : list_any (has_fault plan T) units ≡ false → after ≡ before + cost_of plan T units
