-- What is kept of the units of a plan over a tree, seen without places, and the invariant that it has (ISO/IEC 19757-3, clause 6):
-- what each unit gave and read, where no edit has touched that since.
use Rattle.std.specs.Prelude.{◌≡◌, ℕ, ◌<◌, ◌≤◌, true, length, List, Option, None, Some, Result, Ok, slice_get}
use Rattle.std.specs.FinSet.{contains}
use Rattle.std.specs.List.{AllByRecursion as Each}
use Rattle.doc_tree.specs.Table.{Table, is_live}
use Rattle.xp_outcome.specs.Evaluation.{Read}
use Rattle.xp_outcome.specs.Recorded.{LetSet, Recorded, note_all, nothing_read}
use Rattle.xp_outcome.specs.Slots.{in_slot}
use Rattle.xp_values.specs.declared.values.EvalFault.{EvalFault}
use Rattle.xp_values.specs.declared.values.Value.{Value}
use Rattle.xp_meaning.specs.Conversions.{nodes_of}
use Rattle.xp_meaning.specs.Evaluation.{Lets}
use Rattle.sch_compiled.specs.declared.findings.Outcome.{Outcome}
use Rattle.sch_compiled.specs.declared.parts.LetInForce.{LetInForce}
use Rattle.sch_compiled.specs.declared.plan.Plan.{Plan}
use Rattle.sch_units.specs.Units.{unit_let, unit_pair}
use Rattle.sch_units.specs.Validity.{outcome_of}
use Rattle.edit_costs.specs.Locality.{RulesTyped}
use Rattle.edit_costs.specs.Units.{ValidationUnit, in_force, under, let_reads}
use Rattle.cover_laws.specs.Covering.{HeldAlike}

pub record Kept : Type 0 where
  -- the outcome of each let in force, in its slot
  pub lets : Lets
  -- the outcome of a node under a pattern, by the numbers of the pattern and of the node
  pub outcomes : ℕ → ℕ → Option Outcome
  -- what is held of what a unit read; of a stale unit nothing is kept
  pub reads : ValidationUnit → Option Recorded

-- a unit of the plan over the tree
abbrev pub IsUnit : Plan → Table → ValidationUnit → Type 0
IsUnit plan T (in_force slot) = slot < length plan.lets
IsUnit plan T (under p n) = (p < length plan.patterns) × (is_live T n ≡ true)

-- the rules of a unit's pattern are well typed, as those of every plan that was made are
abbrev pub IsTyped : Plan → ValidationUnit → Type 0
IsTyped plan (in_force slot) = Unit {0}
IsTyped plan (under p n) = RulesTyped plan p

-- what a let in force gives under some lets
abbrev pub let_gives : Table → Lets → Option LetInForce → Option (Result Value EvalFault)
let_gives T L None = None
let_gives T L (Some t) = Some (unit_let T L t.expr).answer

-- what a unit reads under some lets
abbrev pub reads_under : Plan → Table → Lets → ValidationUnit → List Read
reads_under plan T L (in_force slot) = let_reads T L (slice_get plan.lets slot)
reads_under plan T L (under p n) = (unit_pair plan T L p n).reads

-- what was read, as a set
abbrev pub noted : List Read → Recorded
noted reads = note_all nothing_read reads

-- the kept outcome of a unit is what it gives under the kept lets
abbrev pub Gave : Plan → Table → Kept → ValidationUnit → Type 0
Gave plan T kept (in_force slot) = in_slot kept.lets slot ≡ let_gives T kept.lets (slice_get plan.lets slot)
Gave plan T kept (under p n) = kept.outcomes p n ≡ Some (outcome_of (unit_pair plan T kept.lets p n).answer)

-- where a slot holds a value, its nodes pass
abbrev pub LetsPass : (ℕ → Type 0) → Lets → ℕ → Type 0
LetsPass P L slot = (v : Value) → in_slot L slot ≡ Some (Ok v) → Each P (nodes_of v)

-- the nodes of the values in some slots live
abbrev pub LetsLive : Table → Lets → LetSet → Type 0
LetsLive T L lets = (slot : ℕ) → contains lets slot ≡ true → LetsPass (λ n. is_live T n ≡ true) L slot

-- a unit gave and read what it does over the tree under the kept lets
pub record Stands (plan : Plan) (T : Table) (kept : Kept) (unit : ValidationUnit) (held : Recorded) : Type 0 where
  pub gave : Gave plan T kept unit
  pub read : HeldAlike T held (noted (reads_under plan T kept.lets unit))

-- what is kept is the state: each unit that isn't stale stands, where the nodes of the lets that it read live
pub record Keeps (plan : Plan) (T : Table) (kept : Kept) : Type 0 where
  pub few : length kept.lets ≤ length plan.lets
  -- the lets' nodes were made, and of nodes that are not yet made nothing is kept
  pub made : (slot : ℕ) → LetsPass (λ n. n < length T) kept.lets slot
  pub new : (p n : ℕ) → length T ≤ n → kept.reads (under p n) ≡ None
  -- a let read none but those before it
  pub before : (slot other : ℕ) (held : Recorded) → kept.reads (in_force slot) ≡ Some held → contains held.lets other ≡ true → other < slot
  pub stands : (unit : ValidationUnit) (held : Recorded) → IsUnit plan T unit → IsTyped plan unit → kept.reads unit ≡ Some held →
      LetsLive T kept.lets held.lets → Stands plan T kept unit held
