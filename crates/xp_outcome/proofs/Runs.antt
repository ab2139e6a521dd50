-- Steps of runs: how the run of a part makes a run of the whole.
use Rattle.std.proofs.Common.{◌≡◌, ℕ, suc, ◌+◌, ◌<◌, ◌≤◌, length, get_or, drop, drop-cons, add-one, List, [], ◌∷◌, ◌++◌, refl, sym, ◌∙◌, ap, subst, append_assoc, append-nil, add-zero, Result, Ok, Err, arith}
use Rattle.std.proofs.lemmas.List.{drop_all}
use Rattle.xp_outcome.specs.Evaluation.{Read, Evaluation, done, fault, behind, follow, bind, visit, visits, reading, all_reading}
use Rattle.xp_outcome.specs.Recorded.{Recorded, note, note_all}
use Rattle.xp_outcome.specs.Running.{Stop, faulted, no_memory, Answered, Faulted, CutShort, Ran, Onto}
use Rattle.xp_outcome.proofs.Outcomes.{bind-answer, bind-fault, gathering, gathering_end, gathering_more}

pub note_all-append : (held : Recorded) (xs ys : List Read) → note_all held (xs ++ ys) ≡ note_all (note_all held xs) ys
note_all-append held [] ys = refl
note_all-append held (x ∷ xs) ys = note_all-append (note held x) xs ys

module _ {F A : Type 0} where
  -- what is done already
  pub ran_done : (v : A) (held : Recorded) (n : ℕ) → Ran {F = F} (done v) (Ok v) held held n n
  unfolding done
  ran_done v held n = record { computes = record { answer = refl; reads = refl; steps = sym (add-zero n) } }

  pub ran_fault : (f : F) (held : Recorded) (n : ℕ) → Ran {A = A} (fault f) (Err (faulted f)) held held n n
  unfolding fault
  ran_fault f held n = record { computes = record { answer = refl; reads = refl; later = omega arith; steps = omega arith } }

  -- want of memory before anything was read
  pub ran_late : (m : Evaluation F A) (held : Recorded) (n : ℕ) → Ran m (Err no_memory) held held n n
  ran_late m held n = record { computes = record { recorded = []; unread = m.reads; reads = refl; first = refl; later = omega arith; steps = omega arith } }

  -- reads and visits before the rest
  pub ran_behind : (xs : List Read) (k : ℕ) (m : Evaluation F A) (r : Result A (Stop F)) (held now : Recorded) (before after : ℕ) →
      Ran m r (note_all held xs) now (before + k) after → Ran (behind xs k m) r held now before after
  unfolding behind
  ran_behind xs k m (Ok v) held now before after h =
      let c : Answered m v (note_all held xs) now (before + k) after = h.computes in
      record { computes = record { answer = c.answer; reads = c.reads ∙ sym (note_all-append held xs m.reads); steps = omega (arith, c.steps) } }
  ran_behind xs k m (Err (faulted f)) held now before after h =
      let c : Faulted m f (note_all held xs) now (before + k) after = h.computes in
      record { computes = record { answer = c.answer; reads = c.reads ∙ sym (note_all-append held xs m.reads); later = omega (arith, c.later); steps = omega (arith, c.steps) } }
  ran_behind xs k m (Err no_memory) held now before after h =
      let c : CutShort m (note_all held xs) now (before + k) after = h.computes in
      record {
        computes = record {
          recorded = xs ++ c.recorded;
          unread = c.unread;
          reads = ap (λ rs. xs ++ rs) c.reads ∙ sym (append_assoc xs c.recorded c.unread);
          first = c.first ∙ sym (note_all-append held xs c.recorded);
          later = omega (arith, c.later);
          steps = omega (arith, c.steps);
        };
      }

  pub ran_visit : {m : Evaluation F A} {r : Result A (Stop F)} {held now : Recorded} {before after : ℕ} →
      Ran m r held now (before + 1) after → Ran (visit m) r held now before after
  unfolding visit
  ran_visit {m} {r} {held} {now} {before} {after} h = ran_behind [] 1 m r held now before after h

  pub ran_visits : {m : Evaluation F A} {r : Result A (Stop F)} {held now : Recorded} {before after : ℕ} (k : ℕ) →
      Ran m r held now (before + k) after → Ran (visits k m) r held now before after
  unfolding visits
  ran_visits {m} {r} {held} {now} {before} {after} k h = ran_behind [] k m r held now before after h

  pub ran_reading : {m : Evaluation F A} {r : Result A (Stop F)} {held now : Recorded} {before after : ℕ} (x : Read) →
      Ran m r (note held x) now before after → Ran (reading x m) r held now before after
  unfolding reading
  ran_reading {m} {r} {held} {now} {before} {after} x h =
      ran_behind (x ∷ []) 0 m r held now before after (subst (λ n. Ran m r (note held x) now n after) (sym (add-zero before)) h)

  pub ran_all_reading : {m : Evaluation F A} {r : Result A (Stop F)} {held now : Recorded} {before after : ℕ} (xs : List Read) →
      Ran m r (note_all held xs) now before after → Ran (all_reading xs m) r held now before after
  unfolding all_reading
  ran_all_reading {m} {r} {held} {now} {before} {after} xs h =
      ran_behind xs 0 m r held now before after (subst (λ n. Ran m r (note_all held xs) now n after) (sym (add-zero before)) h)

  -- the same run of an equal outcome
  pub ran_alike : {m k : Evaluation F A} {r : Result A (Stop F)} {held now : Recorded} {before after : ℕ} → m ≡ k →
      Ran k r held now before after → Ran m r held now before after
  ran_alike {r = r} {held = held} {now = now} {before = before} {after = after} is h = subst (λ o. Ran o r held now before after) (sym is) h

module _ {F A B : Type 0} where
  -- a part that answered, and then the rest
  pub ran_bind : {m : Evaluation F A} (next : A → Evaluation F B) {v : A} {r : Result B (Stop F)} {held between now : Recorded} {before mid after : ℕ} →
      Ran m (Ok v) held between before mid → Ran (next v) r between now mid after → Ran (bind m next) r held now before after
  ran_bind {m} next {v} {r} {held} {between} {now} {before} {mid} {after} first rest =
      let c : Answered m v held between before mid = first.computes in
      ran_alike (bind-answer m next v c.answer)
      (ran_behind m.reads m.work (next v) r held now before after
      (subst (λ h. Ran (next v) r h now (before + m.work) after) c.reads (subst (λ n. Ran (next v) r between now n after) c.steps rest)))

  -- a part that stopped
  pub ran_stop : {m : Evaluation F A} (next : A → Evaluation F B) {held now : Recorded} {before after : ℕ} (e : Stop F) →
      Ran m (Err e) held now before after → Ran (bind m next) (Err e) held now before after
  unfolding bind behind fault
  ran_stop {m} next {held} {now} {before} {after} (faulted f) h =
      let c : Faulted m f held now before after = h.computes in
      ran_alike (bind-fault m next f c.answer) (record { computes = record { answer = refl; reads = c.reads ∙ ap (λ rs. note_all held rs) (sym (append-nil m.reads)); later = c.later; steps = omega (arith, c.steps) } })
  ran_stop {m} next {held} {now} {before} {after} no_memory h =
      let c : CutShort m held now before after = h.computes in
      record {
        computes = record {
          recorded = c.recorded;
          unread = c.unread ++ (follow m.answer next).reads;
          reads = ap (λ rs. rs ++ (follow m.answer next).reads) c.reads ∙ append_assoc c.recorded c.unread (follow m.answer next).reads;
          first = c.first;
          later = c.later;
          steps = omega (arith, c.steps);
        };
      }

-- How far a run has come. Each turns "the rest is .." into what the rest is after one step more.
module _ {F A : Type 0} {m : Evaluation F A} {held : Recorded} {before : ℕ} where
  pub onto_alike : {k l : Evaluation F A} {now : Recorded} {after : ℕ} → k ≡ l → Onto m held before k now after → Onto m held before l now after
  onto_alike {now = now} {after = after} is h = subst (λ o. Onto m held before o now after) is h

  pub onto_behind : (xs : List Read) (n : ℕ) {k : Evaluation F A} {now : Recorded} {after : ℕ} → Onto m held before (behind xs n k) now after →
      Onto m held before k (note_all now xs) (after + n)
  onto_behind xs n {k} {now} {after} h = record { go = λ r last end rest. h.go r last end (ran_behind xs n k r now last after end rest) }

  pub onto_visit : {k : Evaluation F A} {now : Recorded} {after : ℕ} → Onto m held before (visit k) now after → Onto m held before k now (after + 1)
  onto_visit h = record { go = λ r last end rest. h.go r last end (ran_visit rest) }

  pub onto_visits : (n : ℕ) {k : Evaluation F A} {now : Recorded} {after : ℕ} → Onto m held before (visits n k) now after → Onto m held before k now (after + n)
  onto_visits n h = record { go = λ r last end rest. h.go r last end (ran_visits n rest) }

  pub onto_reading : (x : Read) {k : Evaluation F A} {now : Recorded} {after : ℕ} → Onto m held before (reading x k) now after → Onto m held before k (note now x) after
  onto_reading x h = record { go = λ r last end rest. h.go r last end (ran_reading x rest) }

  pub onto_all_reading : (xs : List Read) {k : Evaluation F A} {now : Recorded} {after : ℕ} → Onto m held before (all_reading xs k) now after → Onto m held before k (note_all now xs) after
  onto_all_reading xs h = record { go = λ r last end rest. h.go r last end (ran_all_reading xs rest) }

  -- the whole ends where the rest is an answer, a fault, or where no memory is left
  pub onto_done : {v : A} {now : Recorded} {after : ℕ} → Onto m held before (done v) now after → Ran m (Ok v) held now before after
  onto_done {v} {now} {after} h = h.go (Ok v) now after (ran_done v now after)

  pub onto_fault : {f : F} {now : Recorded} {after : ℕ} → Onto m held before (fault f) now after → Ran m (Err (faulted f)) held now before after
  onto_fault {f} {now} {after} h = h.go (Err (faulted f)) now after (ran_fault f now after)

  pub onto_late : {k : Evaluation F A} {now : Recorded} {after : ℕ} → Onto m held before k now after → Ran m (Err no_memory) held now before after
  onto_late {k} {now} {after} h = h.go (Err no_memory) now after (ran_late k now after)

  pub onto_end : {k : Evaluation F A} {r : Result A (Stop F)} {now last : Recorded} {after end : ℕ} → Onto m held before k now after → Ran k r now last after end →
      Ran m r held last before end
  onto_end {k} {r} {now} {last} {after} {end} h rest = h.go r last end rest

module _ {F A B : Type 0} {m : Evaluation F B} {held : Recorded} {before : ℕ} where
  -- the next part answered
  pub onto_bind : {k : Evaluation F A} (next : A → Evaluation F B) {v : A} {now later : Recorded} {after end : ℕ} → Onto m held before (bind k next) now after →
      Ran k (Ok v) now later after end → Onto m held before (next v) later end
  onto_bind next h first = record { go = λ r last most rest. h.go r last most (ran_bind next first rest) }

  -- the next part stopped, and so did the whole
  pub onto_stop : {k : Evaluation F A} (next : A → Evaluation F B) (e : Stop F) {now later : Recorded} {after end : ℕ} → Onto m held before (bind k next) now after →
      Ran k (Err e) now later after end → Ran m (Err e) held later before end
  onto_stop next e {now} {later} {after} {end} h first = h.go (Err e) later end (ran_stop next e first)

pub onto_start : {F A : Type 0} (m : Evaluation F A) (held : Recorded) (before : ℕ) → Onto m held before m held before
onto_start m held before = record { go = λ r last end rest. rest }

-- a loop that gathers: one item more, an item that stopped, and the end
module _ {F X A B C : Type 0} (act : ℕ → X → Evaluation F A) (piece : ℕ → X → A → List B) (next : List B → Evaluation F C) {m : Evaluation F C} {held : Recorded} {before : ℕ} where
  pub gather_more : (acc : List B) (i : ℕ) (x : X) (xs : List X) {v : A} {now later : Recorded} {after end : ℕ} →
      Onto m held before (gathering act piece next acc i (x ∷ xs)) now after → Ran (act i x) (Ok v) now later after end →
      Onto m held before (gathering act piece next (acc ++ piece i x v) (i + 1) xs) later end
  gather_more acc i x xs {v} h one =
      onto_bind (λ w. gathering act piece next (acc ++ piece i x w) (i + 1) xs) {v = v} (onto_alike (gathering_more act piece next acc i x xs) h) one

  pub gather_stop : (acc : List B) (i : ℕ) (x : X) (xs : List X) (e : Stop F) {now later : Recorded} {after end : ℕ} →
      Onto m held before (gathering act piece next acc i (x ∷ xs)) now after → Ran (act i x) (Err e) now later after end → Ran m (Err e) held later before end
  gather_stop acc i x xs e h one =
      onto_stop (λ w. gathering act piece next (acc ++ piece i x w) (i + 1) xs) e (onto_alike (gathering_more act piece next acc i x xs) h) one

  pub gather_end : (acc : List B) (i : ℕ) {now : Recorded} {after : ℕ} → Onto m held before (gathering act piece next acc i []) now after →
      Onto m held before (next acc) now after
  gather_end acc i h = onto_alike (gathering_end act piece next acc i) h

-- the recorder and the count may be given by other terms
pub onto_moved : {F A : Type 0} {m k : Evaluation F A} {held now moved : Recorded} {before after gone : ℕ} → moved ≡ now → gone ≡ after →
    Onto m held before k now after → Onto m held before k moved gone
onto_moved {m = m} {k = k} {held = held} {now = now} {moved = moved} {before = before} {after = after} {gone = gone} r s h =
    subst (λ n. Onto m held before k moved n) (sym s) (subst (λ o. Onto m held before k o after) (sym r) h)

pub ran_moved : {F A : Type 0} {m : Evaluation F A} {r : Result A (Stop F)} {held from now moved : Recorded} {before start after gone : ℕ} →
    from ≡ held → moved ≡ now → start ≡ before → gone ≡ after → Ran m r held now before after → Ran m r from moved start gone
ran_moved {m = m} {r = r} {held = held} {from = from} {now = now} {moved = moved} {before = before} {start = start} {after = after} {gone = gone} a b c d h =
    subst (λ n. Ran m r from moved start n) (sym d)
    (subst (λ n. Ran m r from moved n after) (sym c) (subst (λ o. Ran m r from o before after) (sym b) (subst (λ o. Ran m r o now before after) (sym a) h)))

-- what a loop over a list has before it: an item and the rest, or nothing
pub next_item : {X : Type 0} (xs : List X) (i : ℕ) (x : X) → i < length xs → x ≡ get_or xs i x → drop i xs ≡ x ∷ drop (i + 1) xs
next_item xs i x below is = drop-cons xs i x below ∙ ap (λ y. y ∷ drop (suc i) xs) (sym is) ∙ ap (λ k. x ∷ drop k xs) (sym (add-one i))

pub no_item : {X : Type 0} (xs : List X) (i : ℕ) → length xs ≤ i → drop i xs ≡ []
no_item xs i past = drop_all i xs past
