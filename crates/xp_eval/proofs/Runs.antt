-- Runs of loops, one turn further.
use Rattle.std.proofs.Common.{◌≡◌, ℕ, ◌+◌, Bool, true, false, List, [], ◌∷◌, ◌++◌, Result, Ok, Err, IfOk, if◌then◌else◌, sym, ap, ap₂, subst}
use Rattle.std.specs.Result.{IsErrAnd}
use Rattle.std.specs.declared.alloc.AllocError.{AllocError}
use Rattle.xp_outcome.specs.Evaluation.{Evaluation, done, given, bind, gather}
use Rattle.xp_outcome.specs.Recorded.{Recorded}
use Rattle.xp_outcome.specs.Running.{Stop, faulted, no_memory, Ran, Onto}
use Rattle.xp_outcome.proofs.Outcomes.{bind-right, gathering, gathering_start}
use Rattle.xp_values.specs.declared.values.EvalFault.{EvalFault}
use Rattle.xp_values.specs.declared.values.EvalError.{EvalError}
use Rattle.xp_meaning.specs.Results.{shown_alloc, stop_of}
use Rattle.xp_meaning.proofs.Exits.{ran_done_at}
use Rattle.xp_meaning.specs.Paths.{placed}
use Rattle.xp_eval.specs.declared.reached.Reached.{Reached}
use Rattle.xp_eval.specs.inner.Candidates.{shown_found}
use Rattle.xp_eval.specs.inner.Reaching.{shown_reached}
use Rattle.xp_outcome.proofs.Runs.{ran_alike, ran_done, ran_fault, ran_late, onto_start, onto_alike, onto_bind, onto_stop, gather_more, gather_stop, gather_end}

module _ {F A B : Type 0} {m k : Evaluation F B} {held now : Recorded} {before after : ℕ} (a : Evaluation F A) (next : A → Evaluation F B) (is : k ≡ bind a next) where
  -- the next part answered, or stopped
  pub onto_goes : {v : A} {later : Recorded} {end : ℕ} → Onto m held before k now after → Ran a (Ok v) now later after end → Onto m held before (next v) later end
  onto_goes {v} h one = onto_bind next {v = v} (onto_alike is h) one

  pub onto_stops : {later : Recorded} {end : ℕ} (e : Stop F) → Onto m held before k now after → Ran a (Err e) now later after end → Ran m (Err e) held later before end
  onto_stops e h one = onto_stop next e (onto_alike is h) one

-- a choice by a test that is known
pub chosen_yes : {A : Type 0} (x y : A) (b : Bool) → b ≡ true → (if b then x else y) ≡ x
chosen_yes x y b is = ap (λ c. if c then x else y) is

pub chosen_no : {A : Type 0} (x y : A) (b : Bool) → b ≡ false → (if b then x else y) ≡ y
chosen_no x y b is = ap (λ c. if c then x else y) is

-- gathering from the items of a list, by place
module _ {F X A B C : Type 0} (act : ℕ → X → Evaluation F A) (piece : ℕ → X → A → List B) (next : List B → Evaluation F C) {held : Recorded} {before : ℕ} where
  -- one item more, where the list begins with it
  pub gather_goes : {m : Evaluation F C} (acc : List B) (i : ℕ) (ys : List X) (x : X) (zs : List X) → ys ≡ x ∷ zs →
      {v : A} {all : List B} {now later : Recorded} {after end : ℕ} → all ≡ acc ++ piece i x v →
      Onto m held before (gathering act piece next acc i ys) now after → Ran (act i x) (Ok v) now later after end →
      Onto m held before (gathering act piece next all (i + 1) zs) later end
  gather_goes {m} acc i ys x zs is {v} {all} {now} {later} {after} {end} more h one =
      subst (λ bs. Onto m held before (gathering act piece next bs (i + 1) zs) later end) (sym more)
      (gather_more act piece next acc i x zs {v = v} (onto_alike (ap (gathering act piece next acc i) is) h) one)

  pub gather_stops : {m : Evaluation F C} (acc : List B) (i : ℕ) (ys : List X) (x : X) (zs : List X) → ys ≡ x ∷ zs →
      {now later : Recorded} {after end : ℕ} (e : Stop F) →
      Onto m held before (gathering act piece next acc i ys) now after → Ran (act i x) (Err e) now later after end → Ran m (Err e) held later before end
  gather_stops {m} acc i ys x zs is e h one =
      gather_stop act piece next acc i x zs e (onto_alike (ap (gathering act piece next acc i) is) h) one

  pub gather_ends : {m : Evaluation F C} (acc : List B) (i : ℕ) (ys : List X) → ys ≡ [] → {now : Recorded} {after : ℕ} →
      Onto m held before (gathering act piece next acc i ys) now after → Onto m held before (next acc) now after
  gather_ends acc i ys is h = gather_end act piece next acc i (onto_alike (ap (gathering act piece next acc i) is) h)

  -- a loop that gathers begins
  pub gather_begins : (acc : List B) (i : ℕ) (xs : List X) → acc ≡ [] →
      Onto (bind (gather act piece i xs) next) held before (gathering act piece next acc i xs) held before
  gather_begins acc i xs is =
      subst (λ bs. Onto (bind (gather act piece i xs) next) held before (gathering act piece next bs i xs) held before) (sym is)
      (onto_alike (gathering_start act piece next i xs) (onto_start (bind (gather act piece i xs) next) held before))

-- the same, where nothing follows
pub gather_begins_alone : {F X A B : Type 0} (act : ℕ → X → Evaluation F A) (piece : ℕ → X → A → List B) (acc : List B) (i : ℕ) (xs : List X) → acc ≡ [] →
    {held : Recorded} {before : ℕ} → Onto (gather act piece i xs) held before (gathering act piece done acc i xs) held before
gather_begins_alone {B = B} act piece acc i xs is {held} {before} =
    subst (λ m. Onto m held before (gathering act piece done acc i xs) held before) (bind-right (gather act piece i xs)) (gather_begins act piece done acc i xs is)

-- `?` hands on want of memory where nodes are put into a list
pub exit_found : (P : AllocError → Type 0) (ns : List ℕ) {m : Evaluation EvalFault (List ℕ)} {held now : Recorded} {before after : ℕ} → (r : Result Unit AllocError) → IsErrAnd r P →
    Ran m (Err no_memory) held now before after → Ran m (shown_found ns r) held now before after
exit_found P ns (Ok v) h ran = absurd h
exit_found P ns (Err d) h ran = ran

-- an operation that has a fault, or an answer
pub ran_given_fault : {A : Type 0} (meant : Result A EvalFault) (f : EvalFault) (held : Recorded) (n : ℕ) → meant ≡ Err f → Ran (given meant) (Err (faulted f)) held held n n
ran_given_fault meant f held n is = ran_alike (ap given is) (ran_fault f held n)

pub ran_given_ok : {A : Type 0} (meant : Result A EvalFault) (v : A) (held : Recorded) (n : ℕ) → meant ≡ Ok v → Ran (given meant) (Ok v) held held n n
ran_given_ok meant v held n is = ran_alike (ap given is) (ran_done v held n)

-- the context of a node at its place, by the size and the position that the program has
pub placed_is : (current size len position place n : ℕ) → size ≡ len → position ≡ place → placed current len place n ≡ placed current size position n
placed_is current size len position place n s p = ap₂ (λ k i. placed current k i n) (sym s) (sym p)
