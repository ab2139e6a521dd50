-- What holds of units and edits.
use Rattle.std.specs.Prelude.{◌≡◌, ◌↔◌, ℕ, ◌<◌, Bool, true, false, take, Option, Some, Result, slice_get}
use Rattle.std.specs.List.{AllByRecursion as Each}
use Rattle.doc_tree.specs.cell.Cell.{Cell}
use Rattle.doc_tree.specs.Laws.{WellFormed}
use Rattle.doc_tree.specs.Table.{Table, is_live}
use Rattle.doc_edit_laws.specs.Along.{Edits}
use Rattle.xp_outcome.specs.Evaluation.{Read, cell, names_along, variable}
use Rattle.xp_outcome.specs.Slots.{in_slot}
use Rattle.xp_values.specs.declared.values.EvalFault.{EvalFault}
use Rattle.xp_values.specs.declared.values.Value.{Value}
use Rattle.xp_meaning.specs.Evaluation.{Lets}
use Rattle.sch_compiled.specs.declared.parts.LetInForce.{LetInForce}
use Rattle.sch_compiled.specs.declared.plan.Plan.{Plan}
use Rattle.sch_compiled.specs.Soundness.{IsSound}
use Rattle.sch_locality_laws.specs.Units.{lets_of, unit_let, unit_pair}
use Rattle.sch_locality_laws.specs.Locality.{RulesTyped}
use Rattle.edit_costs.specs.Dirty.{is_dirty}
use Rattle.edit_costs.specs.SameOutcome.{same_outcome}
use Rattle.edit_costs.specs.Units.{in_force, under}

-- a unit that edits leave clean gives, reads and costs the same in the tree that they make
pub record CleanUnitsStand : Type 0 where
  pub lets : (plan : Plan) (T U : Table) (touched : Cell → Bool) (slot : ℕ) (t : LetInForce) → WellFormed T → Edits T U touched →
      slice_get plan.lets slot ≡ Some t → is_dirty plan T U touched (in_force slot) ≡ false →
      unit_let U (take slot (lets_of plan U)) t.expr ≡ unit_let T (take slot (lets_of plan T)) t.expr
  pub pairs : (plan : Plan) (T U : Table) (touched : Cell → Bool) (p n : ℕ) → WellFormed T → Edits T U touched → RulesTyped plan p →
      is_live U n ≡ true → is_dirty plan T U touched (under p n) ≡ false →
      unit_pair plan U (lets_of plan U) p n ≡ unit_pair plan T (lets_of plan T) p n

-- a let that is read stands in a slot before another
abbrev pub IsBefore : ℕ → Read → Type 0
IsBefore slot (cell c) = Unit {0}
IsBefore slot (names_along axis n) = Unit {0}
IsBefore slot (variable other) = other < slot

-- a let in force of a sound plan depends on the lets before it alone, and reads none but these
pub record LetsNeedThoseBefore : Type 0 where
  pub same : (plan : Plan) (T : Table) (L M : Lets) (slot : ℕ) (t : LetInForce) → IsSound plan → slice_get plan.lets slot ≡ Some t →
      ((before : ℕ) → before < slot → in_slot L before ≡ in_slot M before) → unit_let T L t.expr ≡ unit_let T M t.expr
  pub reads : (plan : Plan) (T : Table) (L : Lets) (slot : ℕ) (t : LetInForce) → IsSound plan → slice_get plan.lets slot ≡ Some t →
      Each (IsBefore slot) (unit_let T L t.expr).reads

-- two outcomes are the same exactly where they are equal
abbrev pub SameOutcomesAreEqual : Type 0
SameOutcomesAreEqual = (a b : Option (Result Value EvalFault)) → same_outcome a b ≡ true ↔ a ≡ b
