-- The arguments of a function that takes a variable alone, as it is.
use Rattle.std.proofs.Common.{◌≡◌, ℕ, List, [], ◌∷◌, Option, None, Some, IfSome, ◌∙◌, ap}
use Rattle.doc_tree.specs.Table.{Table}
use Rattle.xp_typed_tree.specs.declared.function.Function.{Function}
use Rattle.xp_typed_tree.specs.declared.expr.TypedExpr.{TypedExpr}
use Rattle.xp_typed_tree.specs.TypedView.{typed_tree_of, typed_seen}
use Rattle.xp_outcome.specs.Evaluation.{Evaluation, done, bind, visit, reading, variable}
use Rattle.xp_outcome.specs.Slots.{in_slot}
use Rattle.xp_outcome.proofs.Outcomes.{bind_alike, bind-done, bind-right, bind-visit, bind-reading}
use Rattle.xp_values.specs.declared.values.Value.{Value}
use Rattle.xp_values.specs.declared.values.EvalFault.{EvalFault}
use Rattle.xp_meaning.specs.Conversions.{as_wanted}
use Rattle.xp_meaning.specs.declared.context.Context.{Context}
use Rattle.xp_meaning.specs.declared.want.Want.TheVariants.{AsItIs}
use Rattle.xp_meaning.specs.Functions.{wanted}
use Rattle.xp_meaning.specs.Evaluation.{Lets, meaning, meanings, values, slot_value}
use Rattle.xp_eval.specs.inner.Wants.{wanted_by, lone_let}
use Rattle.xp_eval.proofs.Views.{bind_mapped}

pub lone_values : (T : Table) (L : Lets) (c : Context) (f : Function) (place : ℕ) (e : TypedExpr) (es : List TypedExpr) → es ≡ e ∷ [] → wanted f 0 ≡ AsItIs →
    meaning T L (typed_tree_of e) c ≡ visit (reading (variable place) (slot_value (in_slot L place))) →
    values T (wanted_by (Some f)) (meanings T L (typed_seen es)) c ≡ lone_let L place
lone_values T L c f place e es all want is =
    let held : Evaluation EvalFault Value = slot_value (in_slot L place) in
    let read : Evaluation EvalFault Value = visit (reading (variable place) held) in
    let last : Value → Evaluation EvalFault (List Value) = λ v. bind (done []) (λ rest. done (v ∷ rest)) in
    ap (λ xs. values T (wanted_by (Some f)) (meanings T L (typed_seen xs)) c) all
    ∙ ap (λ m. bind (bind m (λ v. as_wanted T (wanted f 0) v)) last) is
    ∙ ap (λ w. bind (bind read (λ v. as_wanted T w v)) last) want
    ∙ ap (λ m. bind m last) (bind-right read)
    ∙ bind_alike read last (λ v. done (v ∷ [])) (λ v. bind-done [] (λ rest. done (v ∷ rest)))
    ∙ bind-visit (reading (variable place) held) (λ v. done (v ∷ []))
    ∙ ap visit (bind-reading (variable place) held (λ v. done (v ∷ [])))

-- what follows of what an option holds
pub lifted : {A : Type 0} (P Q : A → Type 0) (r : Option A) → ((x : A) → P x → Q x) → IfSome r P → IfSome r Q
lifted P Q None go h = tt
lifted P Q (Some x) go h = go x h

-- what follows the arguments follows the value that the slot holds
pub lone_bound : {B : Type 0} (L : Lets) (place : ℕ) (next : List Value → Evaluation EvalFault B) →
    bind (lone_let L place) next ≡ visit (reading (variable place) (bind (slot_value (in_slot L place)) (λ v. next (v ∷ []))))
lone_bound L place next =
    let one : Evaluation EvalFault (List Value) = bind (slot_value (in_slot L place)) (λ v. done (v ∷ [])) in
    bind-visit (reading (variable place) one) next
    ∙ ap visit (bind-reading (variable place) one next ∙ ap (reading (variable place)) (bind_mapped (slot_value (in_slot L place)) (λ v. v ∷ []) next))
