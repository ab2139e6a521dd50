-- Laws of units, in the words of ISO/IEC 19757-3, clause 6.
use Rattle.std.specs.Prelude.{◌≡◌, ℕ, ◌<◌, true, false, List, [], ◌∷◌, ◌++◌, length, take, All, Some, Result, Ok, slice_get}
use Rattle.std.specs.List.{AllByRecursion as Each}
use Rattle.doc_tree.specs.Table.{Table}
use Rattle.xp_outcome.specs.Evaluation.{Read, cell, names_along, variable}
use Rattle.xp_outcome.specs.Slots.{in_slot, with_slot}
use Rattle.xp_values.specs.declared.values.Value.{Value}
use Rattle.xp_values.specs.declared.values.EvalFault.{EvalFault}
use Rattle.xp_meaning.specs.Evaluation.{Lets}
use Rattle.xslt_match.specs.Matching.{matching}
use Rattle.sch_compiled.specs.declared.parts.LetInForce.{LetInForce}
use Rattle.sch_compiled.specs.declared.parts.PlanRule.{PlanRule}
use Rattle.sch_compiled.specs.declared.plan.Plan.{Plan}
use Rattle.sch_compiled.specs.declared.findings.Finding.{Finding}
use Rattle.sch_compiled.specs.declared.findings.Outcome.TheVariants.{NoRule, Fired, Fault}
use Rattle.sch_compiled.specs.Findings.{IsFindingOf}
use Rattle.sch_compiled.specs.Plan.{rules_of}
use Rattle.sch_units.specs.Units.{unit_let, unit_pair, lets_of}

-- the rule at a place matches a node under some lets, none before it does, and the findings are of its assertions
pub record FiresAlone (T : Table) (L : Lets) (n : ℕ) (rules : List PlanRule) (r : ℕ) (said : List Finding) : Type 0 where
  pub rule : PlanRule
  pub there : slice_get rules r ≡ Some rule
  pub matches : (matching T L rule.context n).answer ≡ Ok true
  pub earlier : (k : ℕ) (other : PlanRule) → k < r → slice_get rules k ≡ Some other → (matching T L other.context n).answer ≡ Ok false
  pub findings : All (IsFindingOf rule.assertions) said

-- the first rule of a pattern that matches a node fires alone; where none fires, none matches; a fault is no answer
pub record FirstMatchFires : Type 0 where
  pub fired : (plan : Plan) (T : Table) (L : Lets) (p n r : ℕ) (findings : List Finding) →
      (unit_pair plan T L p n).answer ≡ Ok (Fired r findings) → FiresAlone T L n (rules_of plan p) r findings
  pub no_rule : (plan : Plan) (T : Table) (L : Lets) (p n : ℕ) →
      (unit_pair plan T L p n).answer ≡ Ok NoRule → Each (λ rule. (matching T L rule.context n).answer ≡ Ok false) (rules_of plan p)
  pub no_fault : (plan : Plan) (T : Table) (L : Lets) (p n : ℕ) (f : EvalFault) → (unit_pair plan T L p n).answer ≡ Ok (Fault f) → ⊥

-- a let that is read is in force: its slot is below the number of the lets in force
abbrev pub IsInForce : ℕ → Read → Type 0
IsInForce count (cell c) = Unit {0}
IsInForce count (names_along axis n) = Unit {0}
IsInForce count (variable slot) = slot < count

-- what a node under a pattern reads names only lets in force
abbrev pub PairsReadLetsInForce : Type 0
PairsReadLetsInForce = (plan : Plan) (T : Table) (L : Lets) (p n : ℕ) → Each (IsInForce (length plan.lets)) (unit_pair plan T L p n).reads

-- each let in force is evaluated under those before it, and its outcome stands in the slot of its place
pub record LetsStandInOrder : Type 0 where
  pub count : (plan : Plan) (T : Table) → length (lets_of plan T) ≡ length plan.lets
  pub under : (plan : Plan) (T : Table) (slot : ℕ) (t : LetInForce) → slice_get plan.lets slot ≡ Some t →
      in_slot (lets_of plan T) slot ≡ Some (unit_let T (take slot (lets_of plan T)) t.expr).answer
  pub next : (outcomes : Lets) (outcome : Result Value EvalFault) → with_slot outcomes (length outcomes) outcome ≡ outcomes ++ Some outcome ∷ []
