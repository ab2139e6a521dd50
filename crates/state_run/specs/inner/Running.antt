-- Units that are evaluated one after another: which have an outcome so far.
use Rattle.std.specs.Prelude.{◌≡◌, ℕ, ◌<◌, true, List, [], ◌∷◌, length, map, filter, Some}
use Rattle.doc_tree.specs.Table.{Table, is_live}
use Rattle.sch_compiled.specs.declared.plan.Plan.{Plan}
use Rattle.sch_compiled.specs.Findings.{OutcomeTable, outcome_at}
use Rattle.sch_units.specs.Validity.{pair_outcome}
use Rattle.edit_costs.specs.Units.{ValidationUnit, under}

-- the unit of a node under a pattern, where it lives
abbrev pub under_node : Table → ℕ → ℕ → List ValidationUnit
under_node T p n = map (under p) (filter (is_live T) (n ∷ []))

-- each live node has its outcome under the first patterns, and those below a number have it under the next one
pub record HoldsTo (plan : Plan) (T : Table) (p number : ℕ) (found : OutcomeTable) : Type 0 where
  pub patterns : found.patterns ≡ length plan.patterns
  pub earlier : (q n : ℕ) → q < p → is_live T n ≡ true → outcome_at found q n ≡ Some (pair_outcome plan T q n)
  pub here : (n : ℕ) → n < number → is_live T n ≡ true → outcome_at found p n ≡ Some (pair_outcome plan T p n)
