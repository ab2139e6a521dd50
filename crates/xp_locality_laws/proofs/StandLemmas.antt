-- Evaluations that stand where what they read was kept: each way to compose them keeps this.
use Rattle.std.proofs.Common.{◌≡◌, ℕ, ◌+◌, Bool, true, false, cond, List, [], ◌∷◌, ◌++◌, Result, Ok, Err, refl, sym, ap, subst}
use Rattle.doc_tree.specs.cell.Cell.{Cell}
use Rattle.doc_tree.specs.Table.{Table}
use Rattle.doc_edit_laws.specs.Agreement.{AllStay, Stays}
use Rattle.xp_outcome.specs.Evaluation.{Read, Evaluation, done, fault, given, behind, follow, bind, visit, visits, reading, all_reading, gather}
use Rattle.xp_meaning.specs.Evaluation.{Lets}
use Rattle.xp_meaning.proofs.Choices.{same_ok}
use Rattle.xp_locality_laws.specs.Locality.{Kept, AllKept, Stands}

-- an answer without nodes
abbrev pub no_nodes : {A : Type 0} → A → List ℕ
no_nodes v = []

module _ (T U : Table) where
  pub stay-append : (xs ys : List ℕ) → AllStay T U xs → AllStay T U ys → AllStay T U (xs ++ ys)
  stay-append [] ys h k = k
  stay-append (x ∷ xs) ys h k = (h.0, stay-append xs ys h.1 k)

  pub stand_behind : {F A : Type 0} (nodes : A → List ℕ) (xs : List Read) (n : ℕ) (before after : Evaluation F A) →
      Stands T U nodes before after → Stands T U nodes (behind xs n before) (behind xs n after)
  unfolding behind
  stand_behind nodes xs n before after s = record { same = ap (behind xs n) s.same; stay = s.stay }

  pub stand_fault : {F A : Type 0} (nodes : A → List ℕ) (f : F) → Stands {F = F} {A = A} T U nodes (fault f) (fault f)
  unfolding fault
  stand_fault {F} {A} nodes f = record { same = refl; stay = λ v is. let bad : Err f ≡ Ok v = is in cc }

module _ (T U : Table) (touched : Cell → Bool) (L M : Lets) where
  pub kept_front : (xs ys : List Read) → AllKept T U touched L M (xs ++ ys) → AllKept T U touched L M xs
  kept_front [] ys h = tt
  kept_front (x ∷ xs) ys h = (h.0, kept_front xs ys h.1)

  pub kept_back : (xs ys : List Read) → AllKept T U touched L M (xs ++ ys) → AllKept T U touched L M ys
  kept_back [] ys h = h
  kept_back (x ∷ xs) ys h = kept_back xs ys h.1

-- where all that the first reads was kept, it stands
pub record Same (T U : Table) (touched : Cell → Bool) (L M : Lets) {F A : Type 0} (nodes : A → List ℕ) (before after : Evaluation F A) : Type 0 where
  pub go : AllKept T U touched L M before.reads → Stands T U nodes before after

module _ (T U : Table) (touched : Cell → Bool) (L M : Lets) {F : Type 0} where
  pub same-done : {A : Type 0} (nodes : A → List ℕ) (v : A) → AllStay T U (nodes v) → Same T U touched L M {F = F} nodes (done v) (done v)
  unfolding done
  same-done nodes v h = record { go = λ _. record { same = refl; stay = λ w is. subst (λ x. AllStay T U (nodes x)) (same_ok {F = F} v w is) h } }

  pub same-fault : {A : Type 0} (nodes : A → List ℕ) (f : F) → Same T U touched L M nodes (fault f) (fault f)
  same-fault nodes f = record { go = λ _. stand_fault T U nodes f }

  pub same-given : {A : Type 0} (nodes : A → List ℕ) (r : Result A F) → ((v : A) → r ≡ Ok v → AllStay T U (nodes v)) → Same T U touched L M nodes (given r) (given r)
  same-given nodes (Ok v) h = same-done nodes v (h v refl)
  same-given nodes (Err f) h = same-fault nodes f

  -- what is computed from the same things is the same
  pub same-equal : {A : Type 0} (nodes : A → List ℕ) (before after other : Evaluation F A) → after ≡ other → Same T U touched L M nodes before after → Same T U touched L M nodes before other
  same-equal nodes before after other e h = subst (λ m. Same T U touched L M nodes before m) e h

  pub same-behind : {A : Type 0} (nodes : A → List ℕ) (xs : List Read) (n : ℕ) (before after : Evaluation F A) →
      (AllKept T U touched L M xs → Same T U touched L M nodes before after) → Same T U touched L M nodes (behind xs n before) (behind xs n after)
  unfolding behind
  same-behind nodes xs n before after h = record {
    go = λ k. stand_behind T U nodes xs n before after
        ((h (kept_front T U touched L M xs before.reads k)).go (kept_back T U touched L M xs before.reads k));
  }

  pub same-visit : {A : Type 0} (nodes : A → List ℕ) (before after : Evaluation F A) →
      Same T U touched L M nodes before after → Same T U touched L M nodes (visit before) (visit after)
  unfolding visit
  same-visit nodes before after h = same-behind nodes [] 1 before after (λ _. h)

  pub same-visits : {A : Type 0} (nodes : A → List ℕ) (n : ℕ) (before after : Evaluation F A) →
      Same T U touched L M nodes before after → Same T U touched L M nodes (visits n before) (visits n after)
  unfolding visits
  same-visits nodes n before after h = same-behind nodes [] n before after (λ _. h)

  -- what follows a read may rest on it that the read was kept
  pub same-reading : {A : Type 0} (nodes : A → List ℕ) (x : Read) (before after : Evaluation F A) →
      (Kept T U touched L M x → Same T U touched L M nodes before after) → Same T U touched L M nodes (reading x before) (reading x after)
  unfolding reading
  same-reading nodes x before after h = same-behind nodes (x ∷ []) 0 before after (λ k. h k.0)

  pub same-all_reading : {A : Type 0} (nodes : A → List ℕ) (xs : List Read) (before after : Evaluation F A) →
      (AllKept T U touched L M xs → Same T U touched L M nodes before after) → Same T U touched L M nodes (all_reading xs before) (all_reading xs after)
  unfolding all_reading
  same-all_reading nodes xs before after h = same-behind nodes xs 0 before after h

  pub same-cond : {A : Type 0} (nodes : A → List ℕ) (b : Bool) (m n other last : Evaluation F A) →
      Same T U touched L M nodes m other → Same T U touched L M nodes n last → Same T U touched L M nodes (cond b m n) (cond b other last)
  same-cond nodes true m n other last h k = h
  same-cond nodes false m n other last h k = k

  -- one and then the next, of which it is known what the first gave
  pub same-bind-answered : {A B : Type 0} (held : A → List ℕ) (nodes : B → List ℕ) (before after : Evaluation F A) (next then : A → Evaluation F B) →
      Same T U touched L M held before after →
      ((v : A) → before.answer ≡ Ok v → AllStay T U (held v) → Same T U touched L M nodes (next v) (then v)) →
      Same T U touched L M nodes (bind before next) (bind after then)
  unfolding bind behind
  same-bind-answered {A} {B} held nodes before after next then h k = record {
    go = λ reads.
        let first : Stands T U held before after = h.go (kept_front T U touched L M before.reads (follow before.answer next).reads reads) in
        let rest : Stands T U nodes (follow before.answer next) (follow before.answer then) =
        by before.answer refl first.stay (kept_back T U touched L M before.reads (follow before.answer next).reads reads) in
        subst (λ m. Stands T U nodes (bind before next) (bind m then)) (sym first.same)
        (stand_behind T U nodes before.reads before.work (follow before.answer next) (follow before.answer then) rest);
  }
    where
      by : (a : Result A F) → before.answer ≡ a → ((v : A) → a ≡ Ok v → AllStay T U (held v)) → AllKept T U touched L M (follow a next).reads →
          Stands T U nodes (follow a next) (follow a then)
      by (Ok v) is stay reads = (k v is (stay v refl)).go reads
      by (Err f) is stay reads = stand_fault T U nodes f

  -- one and then the next
  pub same-bind : {A B : Type 0} (held : A → List ℕ) (nodes : B → List ℕ) (before after : Evaluation F A) (next then : A → Evaluation F B) →
      Same T U touched L M held before after → ((v : A) → AllStay T U (held v) → Same T U touched L M nodes (next v) (then v)) →
      Same T U touched L M nodes (bind before next) (bind after then)
  same-bind held nodes before after next then h k = same-bind-answered held nodes before after next then h (λ v _ stay. k v stay)

  -- an answer made of the answer
  pub same-made : {A B : Type 0} (held : A → List ℕ) (nodes : B → List ℕ) (before after : Evaluation F A) (f g : A → B) →
      Same T U touched L M held before after → ((v : A) → AllStay T U (held v) → (f v ≡ g v) × AllStay T U (nodes (f v))) →
      Same T U touched L M nodes (bind before (λ v. done (f v))) (bind after (λ v. done (g v)))
  same-made held nodes before after f g h k =
      same-bind held nodes before after (λ v. done (f v)) (λ v. done (g v)) h
      (λ v stay. same-equal nodes (done (f v)) (done (f v)) (done (g v)) (ap done (k v stay).0) (same-done nodes (f v) (k v stay).1))

  -- what is gathered from nodes
  pub same-gather : {A : Type 0} (held : A → List ℕ) (act then : ℕ → ℕ → Evaluation F A) (piece : ℕ → ℕ → A → List ℕ) →
      ((i n : ℕ) → Stays T U n → Same T U touched L M held (act i n) (then i n)) →
      ((i n : ℕ) (v : A) → Stays T U n → AllStay T U (held v) → AllStay T U (piece i n v)) →
      (i : ℕ) (ns : List ℕ) → AllStay T U ns → Same T U touched L M (λ ms. ms) (gather act piece i ns) (gather then piece i ns)
  same-gather held act then piece each pieces i [] h = same-done (λ ms. ms) [] tt
  same-gather held act then piece each pieces i (n ∷ ns) h =
      same-bind held (λ ms. ms) (act i n) (then i n)
      (λ v. bind (gather act piece (i + 1) ns) (λ rest. done (piece i n v ++ rest))) (λ v. bind (gather then piece (i + 1) ns) (λ rest. done (piece i n v ++ rest)))
      (each i n h.0)
      (λ v stay. same-made (λ ms. ms) (λ ms. ms) (gather act piece (i + 1) ns) (gather then piece (i + 1) ns) (λ rest. piece i n v ++ rest) (λ rest. piece i n v ++ rest)
      (same-gather held act then piece each pieces (i + 1) ns h.1)
      (λ rest more. (refl, stay-append T U (piece i n v) rest (pieces i n v h.0 stay) more)))
