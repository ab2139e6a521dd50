-- Evaluations all of whose reads may be read, with answers of which something holds: each way to compose them keeps this.
use Rattle.std.proofs.Common.{◌≡◌, ℕ, ◌+◌, Bool, true, false, cond, List, [], ◌∷◌, ◌++◌, Result, Ok, Err, refl, subst}
use Rattle.std.specs.List.{AllByRecursion as Each}
use Rattle.xp_outcome.specs.Evaluation.{Read, Evaluation, done, fault, given, behind, follow, bind, visit, reading, gather}
use Rattle.xp_values.specs.declared.values.EvalFault.{EvalFault}
use Rattle.xp_meaning.proofs.Choices.{same_ok}
use Rattle.xp_meaning_laws.proofs.EachLemmas.{each-append}

pub record Sound (may : Read → Type 0) {A : Type 0} (P : A → Type 0) (m : Evaluation EvalFault A) : Type 0 where
  pub reads : Each may m.reads
  pub answer : (v : A) → m.answer ≡ Ok v → P v

module _ (may : Read → Type 0) where
  pub sound_done : {A : Type 0} (P : A → Type 0) (v : A) → P v → Sound may P (done v)
  unfolding done
  sound_done P v h = record { reads = tt; answer = λ w is. subst P (same_ok {F = EvalFault} v w is) h }

  pub sound_given : {A : Type 0} (P : A → Type 0) (r : Result A EvalFault) → ((v : A) → r ≡ Ok v → P v) → Sound may P (given r)
  unfolding done fault
  sound_given P (Ok v) h = record { reads = tt; answer = λ w is. h w is }
  sound_given P (Err f) h = record { reads = tt; answer = λ w is. h w is }

  pub sound_behind : {A : Type 0} (P : A → Type 0) (xs : List Read) (n : ℕ) (m : Evaluation EvalFault A) → Each may xs → Sound may P m → Sound may P (behind xs n m)
  unfolding behind
  sound_behind P xs n m k h = record { reads = each-append may xs m.reads k h.reads; answer = λ w is. h.answer w is }

  pub sound_visit : {A : Type 0} (P : A → Type 0) (m : Evaluation EvalFault A) → Sound may P m → Sound may P (visit m)
  unfolding visit
  sound_visit P m h = sound_behind P [] 1 m tt h

  pub sound_reading : {A : Type 0} (P : A → Type 0) (x : Read) (m : Evaluation EvalFault A) → may x → Sound may P m → Sound may P (reading x m)
  unfolding reading
  sound_reading P x m k h = sound_behind P (x ∷ []) 0 m (k, tt) h

  pub sound_bind : {A B : Type 0} (P : A → Type 0) (Q : B → Type 0) (m : Evaluation EvalFault A) (next : A → Evaluation EvalFault B) →
      Sound may P m → ((v : A) → P v → Sound may Q (next v)) → Sound may Q (bind m next)
  unfolding bind fault
  sound_bind {A} {B} P Q m next h go = sound_behind Q m.reads m.work (follow m.answer next) h.reads (by m.answer (λ v e. h.answer v e))
    where
      by : (a : Result A EvalFault) → ((v : A) → a ≡ Ok v → P v) → Sound may Q (follow a next)
      by (Ok v) k = go v (k v refl)
      by (Err f) k = record { reads = tt; answer = λ w is. let bad : Err f ≡ Ok w = is in cc }

  pub sound_cond : {A : Type 0} (P : A → Type 0) (b : Bool) (m k : Evaluation EvalFault A) → Sound may P m → Sound may P k → Sound may P (cond b m k)
  sound_cond P true m k h g = h
  sound_cond P false m k h g = g

  -- what is gathered from items
  pub sound_gather : {X A B : Type 0} (R : X → Type 0) (P : A → Type 0) (Q : B → Type 0) (act : ℕ → X → Evaluation EvalFault A) (piece : ℕ → X → A → List B) →
      ((i : ℕ) (x : X) → R x → Sound may P (act i x)) → ((i : ℕ) (x : X) (v : A) → R x → P v → Each Q (piece i x v)) →
      (i : ℕ) (xs : List X) → Each R xs → Sound may (Each Q) (gather act piece i xs)
  sound_gather R P Q act piece f g i [] h = sound_done (Each Q) [] tt
  sound_gather R P Q act piece f g i (x ∷ xs) h =
      sound_bind P (Each Q) (act i x) (λ v. bind (gather act piece (i + 1) xs) (λ rest. done (piece i x v ++ rest))) (f i x h.0)
      (λ v k. sound_bind (Each Q) (Each Q) (gather act piece (i + 1) xs) (λ rest. done (piece i x v ++ rest)) (sound_gather R P Q act piece f g (i + 1) xs h.1)
      (λ rest e. sound_done (Each Q) (piece i x v ++ rest) (each-append Q (piece i x v) rest (g i x v h.0 k) e)))
