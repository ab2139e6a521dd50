-- The ends of runs at an early return, and at the answer of a last call.
use Rattle.std.proofs.Common.{◌≡◌, ℕ, Result, Ok, Err, ◌+◌, sym, subst}
use Rattle.std.specs.Result.{IsErrAnd}
use Rattle.std.specs.declared.alloc.AllocError.{AllocError}
use Rattle.xp_outcome.specs.Evaluation.{Evaluation, done, given, visit}
use Rattle.xp_outcome.specs.Recorded.{Recorded}
use Rattle.xp_outcome.specs.Running.{Stop, faulted, no_memory, Ran}
use Rattle.xp_outcome.proofs.Runs.{ran_done, ran_fault, ran_late, ran_visit}
use Rattle.xp_values.specs.declared.values.EvalFault.{EvalFault}
use Rattle.xp_values.specs.declared.values.EvalError.{EvalError}
use Rattle.xp_values.specs.declared.values.EvalError.TheVariants.{Fault, Memory}
use Rattle.xp_values.specs.Outcomes.{Gives}
use Rattle.xp_meaning.specs.Results.{stop_of, shown, shown_alloc}

module _ {A : Type 0} {m : Evaluation EvalFault A} {held now : Recorded} {before after : ℕ} where
  -- `?` hands on an error of evaluation
  pub exit_same : (r : Result A EvalError) (e : EvalError) → IsErrAnd r (λ d. d ≡ e) → Ran m (Err (stop_of e)) held now before after → Ran m (shown r) held now before after
  exit_same (Ok v) e h ran = absurd h
  exit_same (Err d) e h ran = subst (λ x. Ran m (Err (stop_of x)) held now before after) (sym h) ran

  -- `?` makes want of memory of an allocator's error
  pub exit_memory : (r : Result A EvalError) → IsErrAnd r (λ d. d ≡ Memory) → Ran m (Err no_memory) held now before after → Ran m (shown r) held now before after
  exit_memory (Ok v) h ran = absurd h
  exit_memory (Err d) h ran = subst (λ x. Ran m (Err (stop_of x)) held now before after) (sym h) ran

  -- `?` makes a fault of evaluation of a fault
  pub exit_fault : (r : Result A EvalError) (f : EvalFault) → IsErrAnd r (λ d. d ≡ Fault f) → Ran m (Err (faulted f)) held now before after → Ran m (shown r) held now before after
  exit_fault (Ok v) f h ran = absurd h
  exit_fault (Err d) f h ran = subst (λ x. Ran m (Err (stop_of x)) held now before after) (sym h) ran

-- the answer of a call that reads and visits nothing
pub ran_given : {A : Type 0} (r : Result A EvalError) (meant : Result A EvalFault) (held : Recorded) (n : ℕ) → Gives r meant →
    Ran (given meant) (shown r) held held n n
ran_given (Ok v) meant held n h = subst (λ x. Ran (given x) (Ok v) held held n n) (sym h) (ran_done v held n)
ran_given (Err (Fault f)) meant held n h = subst (λ x. Ran (given x) (Err (faulted f)) held held n n) (sym h) (ran_fault f held n)
ran_given (Err Memory) meant held n h = ran_late (given meant) held n

-- an answer that is the one meant
pub ran_done_at : {A : Type 0} {v : A} (w : A) (held : Recorded) (n : ℕ) → v ≡ w → Ran {F = EvalFault} (done w) (Ok v) held held n n
ran_done_at w held n is = subst (λ x. Ran {F = EvalFault} (done w) (Ok x) held held n n) (sym is) (ran_done w held n)

-- a visit was counted, and then the rest
pub ran_ticked : {A : Type 0} {m : Evaluation EvalFault A} {r : Result A (Stop EvalFault)} {held now : Recorded} {before ticked after : ℕ} →
    ticked ≡ before + 1 → Ran m r held now ticked after → Ran (visit m) r held now before after
ran_ticked {A} {m} {r} {held} {now} {before} {ticked} {after} is h = ran_visit (subst (λ n. Ran m r held now n after) is h)

-- a run that is known by equal outcomes and answers
pub ran_is : {A : Type 0} {m : Evaluation EvalFault A} {v : A} (w : A) {held now : Recorded} {before after : ℕ} → w ≡ v → Ran m (Ok v) held now before after →
    Ran m (Ok w) held now before after
ran_is {A} {m} {v} w {held} {now} {before} {after} is h = subst (λ x. Ran m (Ok x) held now before after) (sym is) h

-- `?` hands on an allocator's error
pub exit_alloc : {A : Type 0} (P : AllocError → Type 0) {m : Evaluation EvalFault A} {held now : Recorded} {before after : ℕ} → (r : Result A AllocError) → IsErrAnd r P →
    Ran m (Err no_memory) held now before after → Ran m (shown_alloc r) held now before after
exit_alloc P (Ok v) h ran = absurd h
exit_alloc P (Err d) h ran = ran

-- the same ends of calls that read and visit nothing
pub gives_memory : {A : Type 0} (r : Result A EvalError) (meant : Result A EvalFault) → IsErrAnd r (λ d. d ≡ Memory) → Gives r meant
gives_memory (Ok v) meant h = absurd h
gives_memory (Err d) meant h = subst (λ x. Gives (Err x) meant) (sym h) tt

pub gives_fault : {A : Type 0} (r : Result A EvalError) (meant : Result A EvalFault) (f : EvalFault) → IsErrAnd r (λ d. d ≡ Fault f) → meant ≡ Err f → Gives r meant
gives_fault (Ok v) meant f h is = absurd h
gives_fault (Err d) meant f h is = subst (λ x. Gives (Err x) meant) (sym h) is
