-- How a count rises for a node under a pattern, and for units of a list that pass a test.
use Rattle.std.proofs.Common.{◌≡◌, ◌∙◌, ℕ, ◌+◌, ◌≤◌, Bool, true, false, not, is_none, List, [], ◌∷◌, ◌++◌, Result, Ok, Err, refl, sym, ap, subst, arith}
use Rattle.std.proofs.lemmas.Bool.{false≢true}
use Rattle.std.proofs.lemmas.List.Elements.{filter-append}
use Rattle.std.specs.List.{filter}
use Rattle.doc_tree.specs.Table.{Table}
use Rattle.xp_values.specs.declared.values.EvalFault.{EvalFault}
use Rattle.xp_meaning.specs.Evaluation.{Lets}
use Rattle.sch_compiled.specs.declared.plan.Plan.{Plan}
use Rattle.sch_compiled.specs.declared.findings.Outcome.{Outcome}
use Rattle.sch_units.specs.Units.{lets_of, unit_pair}
use Rattle.sch_units.specs.Validity.{outcome_of, pair_fault}
use Rattle.edit_costs.specs.Costs.{Raised, cost_of}
use Rattle.edit_costs.specs.Evaluating.{SpentOn, Took}
use Rattle.edit_costs.specs.Units.{ValidationUnit, under, has_fault, work_of}
use Rattle.edit_costs.proofs.RaisedLemmas.{costs, raised_one, raised_then}
use Rattle.kept_units.proofs.ListLemmas.{last_in, last_out}

module _ (plan : Plan) (T : Table) where
  -- for a node under a pattern
  pub raised_pair : (L : Lets) (p n before after : ℕ) → L ≡ lets_of plan T → Took (unit_pair plan T L p n) before after →
      Raised plan T (under p n ∷ []) before after
  raised_pair L p n before after same here =
      raised_one plan T (under p n) before after took.later took.at_most (by_answer (unit_pair plan T (lets_of plan T) p n).answer refl)
    where
      took : Took (unit_pair plan T (lets_of plan T) p n) before after
      took = subst (λ (M : Lets). Took (unit_pair plan T M p n) before after) same here

      by_answer : (answer : Result Outcome EvalFault) → (unit_pair plan T (lets_of plan T) p n).answer ≡ answer →
          has_fault plan T (under p n) ≡ false →
          after ≡ before + work_of plan T (under p n)
      by_answer (Ok outcome) ok none = took.exactly outcome ok
      by_answer (Err f) fault none = absurd (false≢true (sym none ∙ ap (λ a. not (is_none (pair_fault p n (outcome_of a)))) fault))

  -- for the units of a list that pass a test, with a last one that does or doesn't
  pub raised_in : (p : ValidationUnit → Bool) (units : List ValidationUnit) (unit : ValidationUnit) (before middle after : ℕ) → p unit ≡ true →
      Raised plan T (filter p units) before middle → Raised plan T (unit ∷ []) middle after →
      Raised plan T (filter p (units ++ unit ∷ [])) before after
  raised_in p units unit before middle after is so_far last =
      subst (λ run. Raised plan T run before after) (sym (last_in p units unit is))
      (raised_then plan T (filter p units) (unit ∷ []) before middle after so_far last)

  pub raised_out : (p : ValidationUnit → Bool) (units : List ValidationUnit) (unit : ValidationUnit) (before middle after : ℕ) → p unit ≡ false →
      Raised plan T (filter p units) before middle → after ≡ middle → Raised plan T (filter p (units ++ unit ∷ [])) before after
  raised_out p units unit before middle after is so_far same =
      subst (λ (count : ℕ). Raised plan T (filter p (units ++ unit ∷ [])) before count) (sym same)
      (subst (λ run. Raised plan T run before middle) (sym (last_out p units unit is)) so_far)

  -- first for some units, then, at most, for others
  pub spent_then : (first next : List ValidationUnit) (before middle after : ℕ) → SpentOn plan T first before middle →
      SpentOn plan T next middle after → SpentOn plan T (first ++ next) before after
  spent_then first next before middle after one other =
      record { later = omega (arith, one.later, other.later); at_most = omega (arith, one.at_most, other.at_most, costs plan T first next) }

  -- for no unit
  pub spent_none : (units : List ValidationUnit) (count : ℕ) → SpentOn plan T units count count
  spent_none units count = record { later = omega arith; at_most = omega arith }

  -- for fewer units than all
  pub spent_more : (first next : List ValidationUnit) (before after : ℕ) → SpentOn plan T first before after →
      SpentOn plan T (first ++ next) before after
  spent_more first next before after one = spent_then first next before after after one (spent_none next after)

  -- for one unit
  pub spent_one : (unit : ValidationUnit) (before after : ℕ) → before ≤ after → after ≤ before + work_of plan T unit →
      SpentOn plan T (unit ∷ []) before after
  spent_one unit before after later at_most =
      let cost : cost_of plan T (unit ∷ []) ≡ work_of plan T unit = omega arith in
      record { later = later; at_most = omega (arith, at_most, cost) }

  -- for the units of a list that pass a test, up to one of them
  pub spent_in : (p : ValidationUnit → Bool) (units rest : List ValidationUnit) (unit : ValidationUnit) (before middle after : ℕ) → p unit ≡ true →
      SpentOn plan T (filter p units) before middle → SpentOn plan T (unit ∷ []) middle after →
      SpentOn plan T (filter p ((units ++ unit ∷ []) ++ rest)) before after
  spent_in p units rest unit before middle after is so_far last =
      subst (λ run. SpentOn plan T run before after) (sym (filter-append p (units ++ unit ∷ []) rest))
      (spent_more (filter p (units ++ unit ∷ [])) (filter p rest) before after
      (subst (λ run. SpentOn plan T run before after) (sym (last_in p units unit is))
      (spent_then (filter p units) (unit ∷ []) before middle after so_far last)))
