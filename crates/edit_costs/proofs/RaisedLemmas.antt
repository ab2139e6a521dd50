-- How a count rises for units that are evaluated one after another.
use Rattle.std.proofs.Common.{◌≡◌, ◌∙◌, ℕ, ◌+◌, ◌<◌, ◌≤◌, false, not, is_none, List, [], ◌∷◌, ◌++◌, Some, Result, Ok, Err, refl, sym, ap, arith, add-zero, length-append}
use Rattle.std.proofs.lemmas.Bool.{false≢true}
use Rattle.std.proofs.lemmas.List.Folds.{list_any-append}
use Rattle.std.proofs.lemmas.List.Sums.{sum_by-append}
use Rattle.std.specs.List.{list_any}
use Rattle.doc_tree.specs.Table.{Table}
use Rattle.xp_outcome.specs.Evaluation.{Evaluation}
use Rattle.xp_outcome.specs.Slots.{in_slot}
use Rattle.xp_values.specs.declared.values.EvalFault.{EvalFault}
use Rattle.xp_values.specs.declared.values.Value.{Value}
use Rattle.sch_compiled.specs.declared.plan.Plan.{Plan}
use Rattle.sch_locality_laws.specs.Units.{lets_of}
use Rattle.sch_locality_laws.specs.Validity.{let_fault}
use Rattle.edit_costs.specs.Costs.{Raised, cost_of}
use Rattle.edit_costs.specs.Evaluating.{SpentOn, Took}
use Rattle.edit_costs.specs.Units.{ValidationUnit, in_force, has_fault, work_of}
use Rattle.edit_costs.proofs.CleanLemmas.{neither}

module _ (plan : Plan) (T : Table) where
  -- what units cost that follow others
  pub costs : (first next : List ValidationUnit) → cost_of plan T (first ++ next) ≡ cost_of plan T first + cost_of plan T next
  costs first next = sum_by-append (work_of plan T) first next

  -- for no unit it stays
  pub raised_none : (count : ℕ) → Raised plan T [] count count
  raised_none count = record { at_least = omega arith; at_most = omega arith; exactly = λ _. sym (add-zero count) }

  -- first for some units, then for others
  pub raised_then : (first next : List ValidationUnit) (before middle after : ℕ) → Raised plan T first before middle →
      Raised plan T next middle after → Raised plan T (first ++ next) before after
  raised_then first next before middle after one other = record {
    at_least = omega (arith, one.at_least, other.at_least, length-append first next);
    at_most = omega (arith, one.at_most, other.at_most, costs first next);
    exactly = λ none.
        let parts = neither (list_any (has_fault plan T) first) (list_any (has_fault plan T) next)
        (sym (list_any-append (has_fault plan T) first next) ∙ none) in
        omega (arith, one.exactly parts.0, other.exactly parts.1, costs first next);
  }

  -- for one unit
  pub raised_one : (unit : ValidationUnit) (before after : ℕ) → before < after → after ≤ before + work_of plan T unit →
      (has_fault plan T unit ≡ false → after ≡ before + work_of plan T unit) → Raised plan T (unit ∷ []) before after
  raised_one unit before after later at_most exactly =
      let cost : cost_of plan T (unit ∷ []) ≡ work_of plan T unit = omega arith in
      record {
        at_least = omega (arith, later);
        at_most = omega (arith, at_most, cost);
        exactly = λ none. omega (arith, exactly (neither (has_fault plan T unit) false none).0, cost);
      }

  -- for a let in force
  pub raised_let : (m : Evaluation EvalFault Value) (slot before after : ℕ) → in_slot (lets_of plan T) slot ≡ Some m.answer →
      work_of plan T (in_force slot) ≡ m.work → Took m before after → Raised plan T (in_force slot ∷ []) before after
  raised_let m slot before after is work took =
      raised_one (in_force slot) before after took.later (omega (arith, took.at_most, work))
      (λ none. by_answer m.answer refl (ap (λ o. not (is_none (let_fault slot o))) (sym is) ∙ none))
    where
      by_answer : (answer : Result Value EvalFault) → m.answer ≡ answer → not (is_none (let_fault slot (Some m.answer))) ≡ false →
          after ≡ before + work_of plan T (in_force slot)
      by_answer (Ok v) ok none = omega (arith, took.exactly v ok, work)
      by_answer (Err f) fault none = absurd (false≢true (sym none ∙ ap (λ a. not (is_none (let_fault slot (Some a)))) fault))

  -- a count that rose for units rose at most so
  pub spent_raised : (units : List ValidationUnit) (before after : ℕ) → Raised plan T units before after → SpentOn plan T units before after
  spent_raised units before after raised = record { later = omega (arith, raised.at_least); at_most = raised.at_most }
