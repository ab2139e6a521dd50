-- Evaluations that are the same but for the numbers of nodes: each way to compose them keeps this.
use Rattle.std.proofs.Common.{◌≡◌, ℕ, ◌+◌, Bool, true, false, cond, List, [], ◌∷◌, ◌++◌, map, Result, Ok, Err, refl, sym, ap, ap₂, ◌∙◌, subst}
use Rattle.std.proofs.lemmas.List.{map-append}
use Rattle.xp_outcome.specs.Evaluation.{Read, Evaluation, done, fault, given, behind, follow, bind, visit, visits, reading, all_reading, gather}
use Rattle.xp_iso_laws.specs.Moved.{answer_with, moved_read}
use Rattle.xp_iso_laws.specs.Moves.{Moves}

module _ (f : ℕ → ℕ) {F : Type 0} where
  pub moves-done : {A B : Type 0} (change : A → B) (v : A) (w : B) → w ≡ change v → Moves f {F = F} change (done v) (done w)
  unfolding done
  moves-done change v w e = record { answer = ap (λ x. Ok x) e; reads = refl; work = refl }

  pub moves-fault : {A B : Type 0} (change : A → B) (x : F) → Moves f change (fault x) (fault x)
  unfolding fault
  moves-fault change x = record { answer = refl; reads = refl; work = refl }

  pub moves-given : {A B : Type 0} (change : A → B) (r : Result A F) → Moves f change (given r) (given (answer_with change r))
  moves-given change (Ok v) = moves-done change v (change v) refl
  moves-given change (Err x) = moves-fault change x

  -- what is computed from the same things is the same
  pub moves-equal : {A B : Type 0} (change : A → B) (before : Evaluation F A) (after other : Evaluation F B) → after ≡ other → Moves f change before after → Moves f change before other
  moves-equal change before after other e h = subst (λ m. Moves f change before m) e h

  pub moves-behind : {A B : Type 0} (change : A → B) (xs ys : List Read) (n k : ℕ) (before : Evaluation F A) (after : Evaluation F B) →
      ys ≡ map (moved_read f) xs → k ≡ n → Moves f change before after → Moves f change (behind xs n before) (behind ys k after)
  unfolding behind
  moves-behind change xs ys n k before after e g h = record {
    answer = h.answer;
    reads = ap₂ (λ (x y : List Read). x ++ y) e h.reads ∙ sym (map-append (moved_read f) xs before.reads);
    work = ap₂ (λ (x y : ℕ). x + y) g h.work;
  }

  pub moves-visit : {A B : Type 0} (change : A → B) (before : Evaluation F A) (after : Evaluation F B) → Moves f change before after → Moves f change (visit before) (visit after)
  unfolding visit
  moves-visit change before after h = moves-behind change [] [] 1 1 before after refl refl h

  pub moves-visits : {A B : Type 0} (change : A → B) (n k : ℕ) (before : Evaluation F A) (after : Evaluation F B) → k ≡ n →
      Moves f change before after → Moves f change (visits n before) (visits k after)
  unfolding visits
  moves-visits change n k before after e h = moves-behind change [] [] n k before after refl e h

  pub moves-reading : {A B : Type 0} (change : A → B) (x y : Read) (before : Evaluation F A) (after : Evaluation F B) → y ≡ moved_read f x →
      Moves f change before after → Moves f change (reading x before) (reading y after)
  unfolding reading
  moves-reading change x y before after e h = moves-behind change (x ∷ []) (y ∷ []) 0 0 before after (ap (λ z. z ∷ []) e) refl h

  pub moves-all_reading : {A B : Type 0} (change : A → B) (xs ys : List Read) (before : Evaluation F A) (after : Evaluation F B) → ys ≡ map (moved_read f) xs →
      Moves f change before after → Moves f change (all_reading xs before) (all_reading ys after)
  unfolding all_reading
  moves-all_reading change xs ys before after e h = moves-behind change xs ys 0 0 before after e refl h

  pub moves-cond : {A B : Type 0} (change : A → B) (b : Bool) (m n : Evaluation F A) (other last : Evaluation F B) →
      Moves f change m other → Moves f change n last → Moves f change (cond b m n) (cond b other last)
  moves-cond change true m n other last h k = h
  moves-cond change false m n other last h k = k

  -- one and then the next
  pub moves-bind : {A B C D : Type 0} (held : A → B) (change : C → D) (before : Evaluation F A) (after : Evaluation F B) (next : A → Evaluation F C) (then : B → Evaluation F D) →
      Moves f held before after → ((v : A) → Moves f change (next v) (then (held v))) → Moves f change (bind before next) (bind after then)
  unfolding bind
  moves-bind {A} {B} {C} {D} held change before after next then h k =
      moves-equal change (bind before next) (behind after.reads after.work (follow (answer_with held before.answer) then)) (bind after then)
      (ap (λ (a : Result B F). behind after.reads after.work (follow a then)) (sym h.answer))
      (moves-behind change before.reads after.reads before.work after.work (follow before.answer next) (follow (answer_with held before.answer) then) h.reads h.work (by before.answer))
    where
      by : (a : Result A F) → Moves f change (follow a next) (follow (answer_with held a) then)
      by (Ok v) = k v
      by (Err x) = moves-fault change x

  -- an answer made of the answer
  pub moves-made : {A B C D : Type 0} (held : A → B) (change : C → D) (before : Evaluation F A) (after : Evaluation F B) (p : A → C) (q : B → D) →
      Moves f held before after → ((v : A) → q (held v) ≡ change (p v)) → Moves f change (bind before (λ v. done (p v))) (bind after (λ v. done (q v)))
  moves-made held change before after p q h k =
      moves-bind held change before after (λ v. done (p v)) (λ v. done (q v)) h (λ v. moves-done change (p v) (q (held v)) (k v))

  -- what is gathered from nodes
  pub moves-gather : {A B : Type 0} (held : A → B) (act : ℕ → ℕ → Evaluation F A) (then : ℕ → ℕ → Evaluation F B) (piece : ℕ → ℕ → A → List ℕ) (other : ℕ → ℕ → B → List ℕ) →
      ((i n : ℕ) → Moves f held (act i n) (then i (f n))) → ((i n : ℕ) (v : A) → other i (f n) (held v) ≡ map f (piece i n v)) →
      (i : ℕ) (ns : List ℕ) → Moves f (map f) (gather act piece i ns) (gather then other i (map f ns))
  moves-gather held act then piece other each pieces i [] = moves-done (map f) [] [] refl
  moves-gather held act then piece other each pieces i (n ∷ ns) =
      moves-bind held (map f) (act i n) (then i (f n))
      (λ v. bind (gather act piece (i + 1) ns) (λ rest. done (piece i n v ++ rest))) (λ v. bind (gather then other (i + 1) (map f ns)) (λ rest. done (other i (f n) v ++ rest)))
      (each i n)
      (λ v. moves-made (map f) (map f) (gather act piece (i + 1) ns) (gather then other (i + 1) (map f ns)) (λ rest. piece i n v ++ rest) (λ rest. other i (f n) (held v) ++ rest)
      (moves-gather held act then piece other each pieces (i + 1) ns)
      (λ rest. ap (λ (l : List ℕ). l ++ map f rest) (pieces i n v) ∙ sym (map-append f (piece i n v) rest)))
