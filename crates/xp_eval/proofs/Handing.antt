-- Answers of runs that are handed on as answers of another kind.
use Rattle.std.proofs.Common.{◌≡◌, ℕ, Bool, true, false, List, Result, Ok, Err, if◌then◌else◌, refl, sym, ◌∙◌, ap, subst}
use Rattle.xp_outcome.specs.Evaluation.{Evaluation, done, bind}
use Rattle.xp_outcome.specs.Recorded.{Recorded}
use Rattle.xp_outcome.specs.Running.{Stop, Ran, Onto}
use Rattle.xp_outcome.proofs.Runs.{ran_bind, ran_done, ran_stop, onto_end}
use Rattle.xp_values.specs.declared.values.EvalFault.{EvalFault}
use Rattle.xp_values.specs.declared.values.EvalError.{EvalError}
use Rattle.xp_values.specs.declared.values.EvalError.TheVariants.{Fault, Memory}
use Rattle.xp_values.specs.Outcomes.{Gives, then_of}
use Rattle.xp_meaning.specs.Results.{stop_of, shown}
use Rattle.xp_eval.specs.declared.reached.Reached.{Reached}
use Rattle.xp_eval.specs.declared.reached.Reached.TheVariants.{Set}
use Rattle.xp_eval.specs.inner.Answers.{answer_as}
use Rattle.xp_eval.specs.inner.Reaching.{shown_reached}

module _ {A B : Type 0} (part : A → B) where
  -- the run goes on with the part
  pub ran_as : (r : Result A EvalError) {s : Result B EvalError} {m : Evaluation EvalFault A} {held now : Recorded} {before after : ℕ} → s ≡ answer_as part r →
      Ran m (shown r) held now before after → Ran (bind m (λ v. done (part v))) (shown s) held now before after
  ran_as (Ok v) {s} {m} {held} {now} {before} {after} is h =
      subst (λ (x : Result B EvalError). Ran (bind m (λ v. done (part v))) (shown x) held now before after) (sym is) (ran_bind (λ v. done (part v)) {v = v} h (ran_done (part v) now after))
  ran_as (Err e) {s} {m} {held} {now} {before} {after} is h =
      subst (λ (x : Result B EvalError). Ran (bind m (λ v. done (part v))) (shown x) held now before after) (sym is) (ran_stop (λ v. done (part v)) (stop_of e) h)

  pub gives_as : (r : Result A EvalError) {s : Result B EvalError} (w : A) → s ≡ answer_as part r → Gives r (Ok w) → Gives s (Ok (part w))
  gives_as (Ok v) w is h = subst (λ (x : Result B EvalError). Gives x (Ok (part w))) (sym is) (ap (λ (x : Result A EvalFault). then_of x (λ u. Ok (part u))) h)
  gives_as (Err (Fault f)) w is h = absurd cc
  gives_as (Err Memory) w is h = subst (λ (x : Result B EvalError). Gives x (Ok (part w))) (sym is) tt

  -- what the answer or the error was made of
  pub answered : (r : Result A EvalError) {w : B} → Ok w ≡ answer_as part r → (v : A) × (r ≡ Ok v) × (w ≡ part v)
  answered (Ok v) is = (v, refl, cc)
  answered (Err e) is = absurd cc

  pub failed : (r : Result A EvalError) {e : EvalError} → Err e ≡ answer_as part r → r ≡ Err e
  failed (Ok v) is = absurd cc
  failed (Err d) is = cc

  -- the run that gave them
  pub ran_ok : (r : Result A EvalError) {w : B} (is : Ok w ≡ answer_as part r) {m : Evaluation EvalFault A} {held now : Recorded} {before after : ℕ} →
      Ran m (shown r) held now before after → Ran m (Ok (answered r is).0) held now before after
  ran_ok r is {m} {held} {now} {before} {after} h = subst (λ (x : Result A EvalError). Ran m (shown x) held now before after) (answered r is).1 h

  pub ran_err : (r : Result A EvalError) {e : EvalError} (is : Err e ≡ answer_as part r) {m : Evaluation EvalFault A} {held now : Recorded} {before after : ℕ} →
      Ran m (shown r) held now before after → Ran m (Err (stop_of e)) held now before after
  ran_err r is {m} {held} {now} {before} {after} h = subst (λ (x : Result A EvalError). Ran m (shown x) held now before after) (failed r is) h

-- nodes that a path has come to
pub ran_reached : (r : Result (List ℕ) EvalError) {s : Result Reached EvalError} {m : Evaluation EvalFault (List ℕ)} {held now : Recorded} {before after : ℕ} → s ≡ answer_as Set r →
    Ran m (shown r) held now before after → Ran m (shown_reached s) held now before after
ran_reached (Ok v) {s} {m} {held} {now} {before} {after} is h = subst (λ (x : Result Reached EvalError). Ran m (shown_reached x) held now before after) (sym is) h
ran_reached (Err e) {s} {m} {held} {now} {before} {after} is h = subst (λ (x : Result Reached EvalError). Ran m (shown_reached x) held now before after) (sym is) h
