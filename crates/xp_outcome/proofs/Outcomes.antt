-- Laws of outcomes: doing nothing before or after changes nothing, and how evaluations are bracketed doesn't matter.
use Rattle.std.proofs.Common.{◌≡◌, ℕ, ◌+◌, List, [], ◌∷◌, ◌++◌, length, refl, sym, ◌∙◌, ap, append_assoc, append-nil, zero-add, add-zero, add_assoc, Result, Ok, Err, arith}
use Rattle.xp_outcome.specs.Evaluation.{Read, Evaluation, done, fault, behind, follow, bind, visit, visits, reading, all_reading, gather}

module _ {F A : Type 0} where
  -- reads and visits before others are those of both
  pub behind-behind : (xs ys : List Read) (n k : ℕ) (m : Evaluation F A) → behind xs n (behind ys k m) ≡ behind (xs ++ ys) (n + k) m
  unfolding behind
  behind-behind xs ys n k m =
      ap (λ rs. record { answer = m.answer; reads = rs; work = n + (k + m.work) }) (sym (append_assoc xs ys m.reads))
      ∙ ap (λ w. record { answer = m.answer; reads = (xs ++ ys) ++ m.reads; work = w }) (sym (add_assoc n k m.work))

  pub behind-nothing : (m : Evaluation F A) → behind [] 0 m ≡ m
  unfolding behind
  behind-nothing m = ap (λ w. record { answer = m.answer; reads = m.reads; work = w }) (zero-add m.work)

  behind_fault : (xs : List Read) (n : ℕ) (f : F) → behind (xs ++ []) (n + 0) (fault {A = A} f) ≡ behind xs n (fault f)
  behind_fault xs n f = ap (λ rs. behind rs (n + 0) (fault f)) (append-nil xs) ∙ ap (λ w. behind xs w (fault f)) (add-zero n)

module _ {F A B : Type 0} where
  -- after an answer the next is done, after the reads and visits of the first
  pub bind-answer : (m : Evaluation F A) (next : A → Evaluation F B) (v : A) → m.answer ≡ Ok v → bind m next ≡ behind m.reads m.work (next v)
  unfolding bind
  bind-answer m next v is = ap (λ a. behind m.reads m.work (follow a next)) is

  -- after a fault nothing is done
  pub bind-fault : (m : Evaluation F A) (next : A → Evaluation F B) (f : F) → m.answer ≡ Err f → bind m next ≡ behind m.reads m.work (fault f)
  unfolding bind
  bind-fault m next f is = ap (λ a. behind m.reads m.work (follow a next)) is

  -- nothing before
  pub bind-done : (v : A) (next : A → Evaluation F B) → bind (done v) next ≡ next v
  unfolding bind done
  bind-done v next = behind-nothing (next v)

  pub bind_after_fault : (f : F) (next : A → Evaluation F B) → bind (fault f) next ≡ fault f
  unfolding bind fault
  bind_after_fault f next = behind-nothing (fault f)

  -- reads and visits before the first are before both
  pub bind-behind : (xs : List Read) (n : ℕ) (m : Evaluation F A) (next : A → Evaluation F B) → bind (behind xs n m) next ≡ behind xs n (bind m next)
  unfolding bind behind
  bind-behind xs n m next = sym (behind-behind xs m.reads n m.work (follow m.answer next))

  pub bind-visit : (m : Evaluation F A) (next : A → Evaluation F B) → bind (visit m) next ≡ visit (bind m next)
  unfolding visit
  bind-visit m next = bind-behind [] 1 m next

  pub bind-visits : (n : ℕ) (m : Evaluation F A) (next : A → Evaluation F B) → bind (visits n m) next ≡ visits n (bind m next)
  unfolding visits
  bind-visits n m next = bind-behind [] n m next

  pub bind-reading : (x : Read) (m : Evaluation F A) (next : A → Evaluation F B) → bind (reading x m) next ≡ reading x (bind m next)
  unfolding reading
  bind-reading x m next = bind-behind (x ∷ []) 0 m next

  pub bind-all_reading : (xs : List Read) (m : Evaluation F A) (next : A → Evaluation F B) → bind (all_reading xs m) next ≡ all_reading xs (bind m next)
  unfolding all_reading
  bind-all_reading xs m next = bind-behind xs 0 m next

  -- what follows alike is alike
  pub bind_alike : (m : Evaluation F A) (f g : A → Evaluation F B) → ((v : A) → f v ≡ g v) → bind m f ≡ bind m g
  bind_alike m f g alike = ap (λ next. bind m next) (λ i v. alike v i)

-- nothing after
pub bind-right : {F A : Type 0} (m : Evaluation F A) → bind m done ≡ m
unfolding bind done behind fault
bind-right {F} {A} m =
    let by_answer : (a : Result A F) (xs : List Read) (n : ℕ) → behind xs n (follow a done) ≡ record { answer = a; reads = xs; work = n } =
    λ a xs n. elim a as (λ r. behind xs n (follow r done) ≡ record { answer = r; reads = xs; work = n }) [
      | Ok v ↦ ap (λ rs. record { answer = Ok v; reads = rs; work = n + 0 }) (append-nil xs) ∙ ap (λ w. record { answer = Ok v; reads = xs; work = w }) (add-zero n)
      | Err f ↦ ap (λ rs. record { answer = Err f; reads = rs; work = n + 0 }) (append-nil xs) ∙ ap (λ w. record { answer = Err f; reads = xs; work = w }) (add-zero n)
    ] in
    by_answer m.answer m.reads m.work

-- how three are bracketed doesn't matter
module _ {F A B C : Type 0} where
  pub bind_assoc : (m : Evaluation F A) (f : A → Evaluation F B) (g : B → Evaluation F C) → bind (bind m f) g ≡ bind m (λ v. bind (f v) g)
  unfolding bind behind fault
  bind_assoc m f g =
      let by_answer : (a : Result A F) (xs : List Read) (n : ℕ) →
      behind (xs ++ (follow a f).reads) (n + (follow a f).work) (follow (follow a f).answer g) ≡ behind xs n (follow a (λ v. bind (f v) g)) =
      λ a xs n. elim a as (λ r. behind (xs ++ (follow r f).reads) (n + (follow r f).work) (follow (follow r f).answer g) ≡ behind xs n (follow r (λ v. bind (f v) g))) [
        | Ok v ↦ sym (behind-behind xs (f v).reads n (f v).work (follow (f v).answer g))
        | Err e ↦ behind_fault xs n e
      ] in
      by_answer m.answer m.reads m.work

-- items gathered in two parts
module _ {F X A B C : Type 0} (act : ℕ → X → Evaluation F A) (piece : ℕ → X → A → List B) where
  -- the rest of a gathering with what goes on from it, once `acc` was gathered
  unfoldable pub gathering : (List B → Evaluation F C) → List B → ℕ → List X → Evaluation F C
  gathering next acc i xs = bind (gather act piece i xs) (λ rest. next (acc ++ rest))

  pub gathering_start : (next : List B → Evaluation F C) (i : ℕ) (xs : List X) → bind (gather act piece i xs) next ≡ gathering next [] i xs
  unfolding gathering
  gathering_start next i xs = refl

  pub gathering_end : (next : List B → Evaluation F C) (acc : List B) (i : ℕ) → gathering next acc i [] ≡ next acc
  unfolding gathering
  gathering_end next acc i = bind-done [] (λ rest. next (acc ++ rest)) ∙ ap next (append-nil acc)

  pub gathering_more : (next : List B → Evaluation F C) (acc : List B) (i : ℕ) (x : X) (xs : List X) →
      gathering next acc i (x ∷ xs) ≡ bind (act i x) (λ v. gathering next (acc ++ piece i x v) (i + 1) xs)
  unfolding gathering
  gathering_more next acc i x xs =
      bind_assoc (act i x) (λ v. bind (gather act piece (i + 1) xs) (λ rest. done (piece i x v ++ rest))) (λ rest. next (acc ++ rest))
      ∙ bind_alike (act i x) _ _ (λ v.
      bind_assoc (gather act piece (i + 1) xs) (λ rest. done (piece i x v ++ rest)) (λ rest. next (acc ++ rest))
      ∙ bind_alike (gather act piece (i + 1) xs) _ _ (λ rest.
      bind-done (piece i x v ++ rest) (λ more. next (acc ++ more)) ∙ ap next (sym (append_assoc acc (piece i x v) rest))))

-- what is gathered from two lists, one after the other
module _ {F X A B : Type 0} (act : ℕ → X → Evaluation F A) (piece : ℕ → X → A → List B) where
  next_place : (i : ℕ) (x : X) (xs : List X) → (i + 1) + length xs ≡ i + length (x ∷ xs)
  next_place i x xs = omega arith

  pub gather-append : (i : ℕ) (xs ys : List X) →
      gather act piece i (xs ++ ys) ≡ bind (gather act piece i xs) (λ front. bind (gather act piece (i + length xs) ys) (λ back. done (front ++ back)))
  gather-append i [] ys =
      sym (bind-done [] (λ front. bind (gather act piece (i + 0) ys) (λ back. done (front ++ back)))
      ∙ bind-right (gather act piece (i + 0) ys) ∙ ap (λ k. gather act piece k ys) (add-zero i))
  gather-append i (x ∷ xs) ys =
      bind_alike (act i x) _ _ (λ v.
      ap (λ m. bind m (λ rest. done (piece i x v ++ rest))) (gather-append (i + 1) xs ys)
      ∙ bind_assoc (gather act piece (i + 1) xs) (λ front. bind (gather act piece ((i + 1) + length xs) ys) (λ back. done (front ++ back))) (λ rest. done (piece i x v ++ rest))
      ∙ bind_alike (gather act piece (i + 1) xs) _ _ (λ front.
      bind_assoc (gather act piece ((i + 1) + length xs) ys) (λ back. done (front ++ back)) (λ rest. done (piece i x v ++ rest))
      ∙ bind_alike (gather act piece ((i + 1) + length xs) ys) _ _ (λ back.
      bind-done (front ++ back) (λ rest. done (piece i x v ++ rest)) ∙ ap done (sym (append_assoc (piece i x v) front back)))
      ∙ ap (λ k. bind (gather act piece k ys) (λ back. done ((piece i x v ++ front) ++ back))) (next_place i x xs)
      ∙ sym (bind-done (piece i x v ++ front) (λ all. bind (gather act piece (i + length (x ∷ xs)) ys) (λ back. done (all ++ back)))))
      ∙ sym (bind_assoc (gather act piece (i + 1) xs) (λ rest. done (piece i x v ++ rest)) (λ all. bind (gather act piece (i + length (x ∷ xs)) ys) (λ back. done (all ++ back)))))
      ∙ sym (bind_assoc (act i x) (λ v. bind (gather act piece (i + 1) xs) (λ rest. done (piece i x v ++ rest))) (λ front. bind (gather act piece (i + length (x ∷ xs)) ys) (λ back. done (front ++ back))))
