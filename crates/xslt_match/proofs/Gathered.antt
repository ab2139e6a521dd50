-- Items gathered into a list that grows: one item more, or one that stopped.
use Rattle.std.proofs.Common.{◌≡◌, ℕ, ◌+◌, List, ◌∷◌, ◌++◌, Result, Ok, Err, sym, ◌∙◌, ap, subst}
use Rattle.std.specs.Result.{IsErrAnd}
use Rattle.xp_outcome.specs.Evaluation.{Evaluation, bind, done}
use Rattle.xp_outcome.specs.Recorded.{Recorded}
use Rattle.xp_outcome.specs.Running.{Stop, Ran, Onto}
use Rattle.xp_outcome.proofs.Outcomes.{bind_alike, bind_assoc, bind-done, gathering, gathering_more}
use Rattle.xp_outcome.proofs.Runs.{onto_alike, onto_bind, onto_stop}
use Rattle.xp_values.specs.declared.values.EvalFault.{EvalFault}
use Rattle.xp_values.specs.declared.values.EvalError.{EvalError}
use Rattle.xp_meaning.specs.Results.{shown, stop_of}
use Rattle.xslt_match.specs.inner.Keeping.{with_list}

module _ {F X A B C : Type 0} (act : ℕ → X → Evaluation F A) (piece : ℕ → X → A → List B) (next : List B → Evaluation F C) where
  grown : (acc : List B) (i : ℕ) (ys : List X) (x : X) (zs : List X) → ys ≡ x ∷ zs →
      gathering act piece next acc i ys ≡ bind (bind (act i x) (λ v. done (acc ++ piece i x v))) (λ bs. gathering act piece next bs (i + 1) zs)
  grown acc i ys x zs is =
      ap (gathering act piece next acc i) is ∙ gathering_more act piece next acc i x zs
      ∙ sym (bind_assoc (act i x) (λ v. done (acc ++ piece i x v)) (λ bs. gathering act piece next bs (i + 1) zs)
      ∙ bind_alike (act i x) _ _ (λ v. bind-done (acc ++ piece i x v) (λ bs. gathering act piece next bs (i + 1) zs)))

  module _ {m : Evaluation F C} {held : Recorded} {before : ℕ} where
    pub grown_goes : (acc : List B) (i : ℕ) (ys : List X) (x : X) (zs : List X) → ys ≡ x ∷ zs → {all : List B} {now later : Recorded} {after end : ℕ} →
        Onto m held before (gathering act piece next acc i ys) now after → Ran (bind (act i x) (λ v. done (acc ++ piece i x v))) (Ok all) now later after end →
        Onto m held before (gathering act piece next all (i + 1) zs) later end
    grown_goes acc i ys x zs is {all} h one = onto_bind (λ bs. gathering act piece next bs (i + 1) zs) {v = all} (onto_alike (grown acc i ys x zs is) h) one

    pub grown_stops : (acc : List B) (i : ℕ) (ys : List X) (x : X) (zs : List X) → ys ≡ x ∷ zs → (e : Stop F) {now later : Recorded} {after end : ℕ} →
        Onto m held before (gathering act piece next acc i ys) now after → Ran (bind (act i x) (λ v. done (acc ++ piece i x v))) (Err e) now later after end →
        Ran m (Err e) held later before end
    grown_stops acc i ys x zs is e h one = onto_stop (λ bs. gathering act piece next bs (i + 1) zs) e (onto_alike (grown acc i ys x zs is) h) one

-- `?` hands on an error of evaluation, whatever list the call left
pub exit_list : {m : Evaluation EvalFault (List ℕ)} {held now : Recorded} {before after : ℕ} (nodes : List ℕ) (r : Result (Unit {0}) EvalError) (e : EvalError) → IsErrAnd r (λ d. d ≡ e) →
    Ran m (Err (stop_of e)) held now before after → Ran m (with_list (shown r) nodes) held now before after
exit_list nodes (Ok v) e h ran = absurd h
exit_list {m} {held} {now} {before} {after} nodes (Err d) e h ran = subst (λ x. Ran m (Err (stop_of x)) held now before after) (sym h) ran
