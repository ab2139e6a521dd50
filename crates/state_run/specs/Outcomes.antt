-- What holds of the outcomes of all units of a plan over a tree.
use Rattle.std.specs.Prelude.{◌≡◌, ℕ, ◌<◌, ◌≤◌, true, length, Some}
use Rattle.doc_tree.specs.Lists.{mem}
use Rattle.doc_tree.specs.Table.{Table}
use Rattle.doc_tree.specs.Walks.{order}
use Rattle.xp_outcome.specs.Slots.{in_slot}
use Rattle.xp_meaning.specs.Evaluation.{Lets}
use Rattle.sch_compiled.specs.declared.plan.Plan.{Plan}
use Rattle.sch_compiled.specs.Findings.{OutcomeTable, outcome_at}
use Rattle.sch_units.specs.Units.{lets_of}
use Rattle.sch_units.specs.Validity.{pair_outcome}

-- the slots hold the outcome of each let in force
pub record LetsHold (plan : Plan) (T : Table) (lets : Lets) : Type 0 where
  pub few : length lets ≤ length plan.lets
  pub each : (slot : ℕ) → slot < length plan.lets → in_slot lets slot ≡ in_slot (lets_of plan T) slot

-- the table holds the outcome of each node under each pattern
pub record Holds (plan : Plan) (T : Table) (found : OutcomeTable) : Type 0 where
  pub patterns : found.patterns ≡ length plan.patterns
  pub outcomes : (p n : ℕ) → p < length plan.patterns → mem n (order T) ≡ true → outcome_at found p n ≡ Some (pair_outcome plan T p n)
