-- How a count rises in a loop, turn by turn.
use Rattle.std.proofs.Common.{◌≡◌, ◌∙◌, ℕ, ◌+◌, ◌-◌, ◌<◌, ◌≤◌, zero, suc, List, ◌++◌, sym, ap, subst, arith}
use Rattle.doc_tree.specs.Table.{Table}
use Rattle.sch_compiled.specs.declared.plan.Plan.{Plan}
use Rattle.edit_costs.specs.Costs.{Raised, cost_of}
use Rattle.edit_costs.specs.Evaluating.{SpentOn}
use Rattle.edit_costs.specs.Units.{ValidationUnit}
use Rattle.edit_costs.proofs.RaisedLemmas.{costs, raised_then}

-- units of a loop: those of its first turns, and those of each turn
module _ (plan : Plan) (T : Table) (first turn : ℕ → List ValidationUnit) (step : (k : ℕ) → first (k + 1) ≡ first k ++ turn k) where
  cost_next : (k : ℕ) → cost_of plan T (first (k + 1)) ≡ cost_of plan T (first k) + cost_of plan T (turn k)
  cost_next k = ap (cost_of plan T) (step k) ∙ costs plan T (first k) (turn k)

  cost_later : (k more : ℕ) → cost_of plan T (first k) ≤ cost_of plan T (first (k + more))
  cost_later k zero =
      let same : k ≡ k + 0 = omega arith in
      omega (arith, ap (λ (i : ℕ). cost_of plan T (first i)) same)
  cost_later k (suc more) =
      let same : (k + more) + 1 ≡ k + suc more = omega arith in
      omega (arith, ap (λ (i : ℕ). cost_of plan T (first i)) same, cost_next (k + more), cost_later k more)

  pub raised_turn : (k before middle after : ℕ) → Raised plan T (first k) before middle → Raised plan T (turn k) middle after →
      Raised plan T (first (k + 1)) before after
  raised_turn k before middle after so_far one =
      subst (λ (units : List ValidationUnit). Raised plan T units before after) (sym (step k))
      (raised_then plan T (first k) (turn k) before middle after so_far one)

  pub spent_turn : (k count before middle after : ℕ) → k < count → Raised plan T (first k) before middle →
      SpentOn plan T (turn k) middle after → SpentOn plan T (first count) before after
  spent_turn k count before middle after within so_far one =
      let rest : (k + 1) + (count - (k + 1)) ≡ count = omega (arith, within) in
      let more : cost_of plan T (first (k + 1)) ≤ cost_of plan T (first count) =
      subst (λ (i : ℕ). cost_of plan T (first (k + 1)) ≤ cost_of plan T (first i)) rest (cost_later (k + 1) (count - (k + 1))) in
      record {
        later = omega (arith, so_far.at_least, one.later);
        at_most = omega (arith, so_far.at_most, one.at_most, cost_next k, more);
      }
