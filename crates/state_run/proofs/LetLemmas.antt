-- A let in force that is evaluated under those before it.
use Rattle.std.proofs.Common.{◌≡◌, ◌∙◌, ℕ, ◌+◌, ◌<◌, [], ◌∷◌, ◌++◌, length, take, Option, None, Some, IfSome, Result, Ok, Err, slice_get, sym, ap, subst, arith}
use Rattle.std.proofs.lemmas.List.{length-take-le, take_more}
use Rattle.doc_tree.specs.Table.{Table}
use Rattle.xp_outcome.specs.Evaluation.{Evaluation}
use Rattle.xp_outcome.specs.Recorded.{Recorded}
use Rattle.xp_outcome.specs.Running.{Ran}
use Rattle.xp_outcome.specs.Slots.{in_slot, with_slot}
use Rattle.xp_values.specs.declared.values.EvalFault.{EvalFault}
use Rattle.xp_values.specs.declared.values.Value.{Value}
use Rattle.xp_meaning.specs.Evaluation.{Lets}
use Rattle.rule_run.specs.Kept.{value_shown}
use Rattle.sch_compiled.specs.declared.parts.LetInForce.{LetInForce}
use Rattle.sch_compiled.specs.declared.plan.Plan.{Plan}
use Rattle.sch_units.specs.Laws.{LetsStandInOrder}
use Rattle.sch_units.specs.Units.{lets_of, unit_let}
use Rattle.edit_costs.specs.Costs.{Raised}
use Rattle.edit_costs.specs.Evaluating.{Took}
use Rattle.edit_costs.specs.Units.{in_force, let_work, work_of}
use Rattle.edit_costs.proofs.LetLemmas.{let_there}
use Rattle.edit_costs.proofs.RaisedLemmas.{raised_let}

-- a let that has a value or a fault
pub let_answer : (m : Evaluation EvalFault Value) (value : Result Value EvalFault) (held now : Recorded) (before after : ℕ) →
    Ran m (value_shown value) held now before after → m.answer ≡ value
let_answer m (Ok v) held now before after ran = ran.computes.answer
let_answer m (Err f) held now before after ran = ran.computes.answer

pub let_took : (m : Evaluation EvalFault Value) (value : Result Value EvalFault) (held now : Recorded) (before after : ℕ) → before < after →
    Ran m (value_shown value) held now before after → Took m before after
let_took m (Ok v) held now before after later ran =
    record { later = later; at_most = omega (arith, ran.computes.steps); exactly = λ other is. ran.computes.steps }
let_took m (Err f) held now before after later ran = record {
  later = later;
  at_most = ran.computes.steps;
  exactly = λ other is. absurd (let e : Err f ≡ Ok other = sym ran.computes.answer ∙ is in (cc));
}

module _ (order : LetsStandInOrder) (plan : Plan) (T : Table) (slot : ℕ) (within : slot < length plan.lets) (lets : Lets)
    (before : lets ≡ take slot (lets_of plan T)) where
  work_is : (t : LetInForce) → slice_get plan.lets slot ≡ Some t → work_of plan T (in_force slot) ≡ (unit_let T lets t.expr).work
  work_is t there = ap (let_work T (take slot (lets_of plan T))) there ∙ ap (λ (L : Lets). (unit_let T L t.expr).work) (sym before)

  answer_is : (t : LetInForce) → slice_get plan.lets slot ≡ Some t → in_slot (lets_of plan T) slot ≡ Some (unit_let T lets t.expr).answer
  answer_is t there = order.under plan T slot t there ∙ ap (λ (L : Lets). Some (unit_let T L t.expr).answer) (sym before)

  -- it gave a value or a fault
  pub let_raised : (value : Result Value EvalFault) (held now : Recorded) (start end : ℕ) → start < end →
      IfSome (slice_get plan.lets slot) (λ t. Ran (unit_let T lets t.expr) (value_shown value) held now start end) →
      Raised plan T (in_force slot ∷ []) start end
  let_raised value held now start end later ran =
      let t = let_there plan slot within in
      let run : Ran (unit_let T lets t.0.expr) (value_shown value) held now start end =
      subst (λ (o : Option LetInForce). IfSome o (λ u. Ran (unit_let T lets u.expr) (value_shown value) held now start end)) t.1 ran in
      raised_let plan T (unit_let T lets t.0.expr) slot start end (answer_is t.0 t.1) (work_is t.0 t.1)
      (let_took (unit_let T lets t.0.expr) value held now start end later run)

  -- and stands in its slot
  pub let_set : (value : Result Value EvalFault) (held now : Recorded) (start end : ℕ) →
      IfSome (slice_get plan.lets slot) (λ t. Ran (unit_let T lets t.expr) (value_shown value) held now start end) →
      with_slot lets slot value ≡ take (slot + 1) (lets_of plan T)
  let_set value held now start end ran =
      let t = let_there plan slot within in
      let run : Ran (unit_let T lets t.0.expr) (value_shown value) held now start end =
      subst (λ (o : Option LetInForce). IfSome o (λ u. Ran (unit_let T lets u.expr) (value_shown value) held now start end)) t.1 ran in
      let short : slot < length (lets_of plan T) = omega (arith, within, order.count plan T) in
      let long : length lets ≡ slot = ap length before ∙ length-take-le slot (lets_of plan T) (omega (arith, short)) in
      let last : in_slot (lets_of plan T) slot ≡ Some value =
      answer_is t.0 t.1 ∙ ap Some (let_answer (unit_let T lets t.0.expr) value held now start end run) in
      ap (λ (k : ℕ). with_slot lets k value) (sym long)
      ∙ order.next lets value
      ∙ ap (λ (L : Lets). L ++ Some value ∷ []) before
      ∙ ap (λ o. take slot (lets_of plan T) ++ o ∷ []) (sym last)
      ∙ sym (take_more (lets_of plan T) slot None short)
