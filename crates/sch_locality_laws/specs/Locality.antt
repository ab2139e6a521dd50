-- What the units of a validation depend on: on what they read, and on nothing else (ISO/IEC 19757-3, clause 6).
use Rattle.std.specs.Prelude.{◌≡◌, ℕ, ◌≤◌, Bool, false, length, take, All}
use Rattle.std.specs.List.{list_any, AllByRecursion as Each}
use Rattle.doc_tree.specs.cell.Cell.{Cell}
use Rattle.doc_tree.specs.Table.{Table}
use Rattle.doc_edit_laws.specs.Agreement.{Stays}
use Rattle.xp_typed_tree.specs.TypedTree.{TypedTree}
use Rattle.xp_typed_tree.specs.WellTyped.{PathsTyped}
use Rattle.xp_outcome.specs.Cells.{cells_of}
use Rattle.xp_outcome.specs.Evaluation.{Read, cell, names_along, variable}
use Rattle.xp_outcome.specs.Slots.{in_slot}
use Rattle.xp_meaning.specs.Conversions.{nodes_of}
use Rattle.xp_meaning.specs.Evaluation.{Lets}
use Rattle.xp_locality_laws.specs.Locality.{AllKept, Changed, Stands}
use Rattle.sch_compiled.specs.declared.parts.PlanRule.{PlanRule}
use Rattle.sch_compiled.specs.declared.plan.Plan.{Plan}
use Rattle.sch_compiled.specs.Plan.{rules_of}
use Rattle.sch_units.specs.Units.{lets_of, unit_let, unit_pair}

-- the context of a rule is well typed
abbrev pub RuleTyped : PlanRule → Type 0
RuleTyped rule = PathsTyped rule.context

-- so are those of all rules of a pattern
abbrev pub RulesTyped : Plan → ℕ → Type 0
RulesTyped plan p = All RuleTyped (rules_of plan p)

-- under given lets, where all was kept that a unit reads in the first tree
pub record GivenLetsAreLocal : Type 0 where
  -- the evaluation of a let in force stands
  pub lets : (T U : Table) (touched : Cell → Bool) (L M : Lets) (expr : TypedTree) → Changed T U touched →
      AllKept T U touched L M (unit_let T L expr).reads → Stands T U nodes_of (unit_let T L expr) (unit_let U M expr)
  -- a node of both trees under a pattern gives, reads and costs the same, where no let is given past the slots of those in force
  pub pairs : (plan : Plan) (T U : Table) (touched : Cell → Bool) (L M : Lets) (p n : ℕ) → Changed T U touched → RulesTyped plan p → Stays T U n →
      length L ≤ length plan.lets → length M ≤ length plan.lets →
      AllKept T U touched L M (unit_pair plan T L p n).reads → unit_pair plan U M p n ≡ unit_pair plan T L p n

-- what was read is unchanged: the cell wasn't touched, none of the names along the axis was, or the let in force has the same value
-- or fault in both trees
abbrev pub Unchanged : Plan → Table → Table → (Cell → Bool) → Read → Type 0
Unchanged plan T U touched (cell c) = touched c ≡ false
Unchanged plan T U touched (names_along axis n) = list_any touched (cells_of T (names_along axis n)) ≡ false
Unchanged plan T U touched (variable slot) = in_slot (lets_of plan T) slot ≡ in_slot (lets_of plan U) slot

-- under the lets in force of each tree, where all is unchanged that a unit reads in the first tree, it gives, reads and costs
-- the same
pub record OwnLetsAreLocal : Type 0 where
  -- a let in force, under the first so many of these
  pub lets : (plan : Plan) (T U : Table) (touched : Cell → Bool) (count : ℕ) (expr : TypedTree) → Changed T U touched →
      Each (Unchanged plan T U touched) (unit_let T (take count (lets_of plan T)) expr).reads →
      unit_let U (take count (lets_of plan U)) expr ≡ unit_let T (take count (lets_of plan T)) expr
  -- a node of both trees under a pattern
  pub pairs : (plan : Plan) (T U : Table) (touched : Cell → Bool) (p n : ℕ) → Changed T U touched → RulesTyped plan p → Stays T U n →
      Each (Unchanged plan T U touched) (unit_pair plan T (lets_of plan T) p n).reads →
      unit_pair plan U (lets_of plan U) p n ≡ unit_pair plan T (lets_of plan T) p n
