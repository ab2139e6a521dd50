-- Units that are evaluated one after another: how a count rises for them, and which have been evaluated so far.
use Rattle.std.specs.Prelude.{◌≡◌, ℕ, ◌+◌, ◌<◌, ◌≤◌, List, map, filter, flat_map, Ok}
use Rattle.std.specs.List.{range_with_len}
use Rattle.doc_tree.specs.Table.{Table, is_live}
use Rattle.xp_outcome.specs.Evaluation.{Evaluation}
use Rattle.sch_compiled.specs.declared.plan.Plan.{Plan}
use Rattle.edit_costs.specs.Costs.{cost_of}
use Rattle.edit_costs.specs.Units.{ValidationUnit, in_force, under, node_units}

-- a count rose for one evaluation: by its visits at most, and by exactly these where it meets no fault
pub record Took {F A : Type 0} (m : Evaluation F A) (before after : ℕ) : Type 0 where
  pub later : before < after
  pub at_most : after ≤ before + m.work
  pub exactly : (v : A) → m.answer ≡ Ok v → after ≡ before + m.work

-- a count rose for the evaluation of units at most
pub record SpentOn (plan : Plan) (T : Table) (units : List ValidationUnit) (before after : ℕ) : Type 0 where
  pub later : before ≤ after
  pub at_most : after ≤ before + cost_of plan T units

-- the units of the lets below a slot, of the nodes below a number, and of the nodes under the patterns below a number
abbrev pub lets_below : ℕ → List ValidationUnit
lets_below slot = map in_force (range_with_len 0 slot)

abbrev pub nodes_below : Table → ℕ → ℕ → List ValidationUnit
nodes_below T p number = map (under p) (filter (is_live T) (range_with_len 0 number))

abbrev pub patterns_below : Table → ℕ → List ValidationUnit
patterns_below T patterns = flat_map (node_units T) (range_with_len 0 patterns)
