-- What is gathered from some numbers, and membership in filters and lists.
use Rattle.std.proofs.Common.{◌≡◌, ℕ, ◌+◌, Bool, true, false, cond, ◌||◌, ◌&&◌, List, [], ◌∷◌, ◌++◌, Ok, eqb, refl, sym, ◌∙◌, ap, ⊎_elim, true≢false, eqb-true, eq-eqb, arith}
use Rattle.std.specs.Prelude.{filter}
use Rattle.std.specs.List.{list_any}
use Rattle.doc_tree.specs.Lists.{mem}
use Rattle.doc_tree.proofs.ListLemmas.{In, In-mem, mem-In, mem-append}
use Rattle.doc_axes.proofs.SubLists.{Sub, sub-occurs, mem-append_is}
use Rattle.xp_outcome.specs.Evaluation.{Evaluation, done, bind, gather}
use Rattle.xp_values.specs.declared.values.EvalFault.{EvalFault}
use Rattle.xp_meaning.proofs.Choices.{came_before, same_ok}
use Rattle.xslt_match.proofs.Filters.{and-false}

-- what an answer was made of
pub answered-done : {A : Type 0} (w v : A) → (done {F = EvalFault} w).answer ≡ Ok v → w ≡ v
unfolding done
answered-done w v is = same_ok {F = EvalFault} w v is

-- a number stands in a filtered list if it stands in the list and passes
pub mem-filter : (p : ℕ → Bool) (k : ℕ) (xs : List ℕ) → mem k (filter p xs) ≡ (mem k xs && p k)
mem-filter p k [] = refl
mem-filter p k (x ∷ xs) = by (eqb k x) (p x) refl refl (mem-filter p k xs)
  where
    by : (d b : Bool) → eqb k x ≡ d → p x ≡ b → mem k (filter p xs) ≡ (mem k xs && p k) →
        mem k (cond b (x ∷ filter p xs) (filter p xs)) ≡ ((d || mem k xs) && p k)
    by true true e f more = ap (λ q. q || mem k (filter p xs)) e ∙ sym (ap p (eqb-true k x e) ∙ f)
    by true false e f more =
        let out : p k ≡ false = ap p (eqb-true k x e) ∙ f in
        more ∙ ap (λ q. mem k xs && q) out ∙ and-false (mem k xs) ∙ sym out
    by false true e f more = ap (λ q. q || mem k (filter p xs)) e ∙ more
    by false false e f more = more

pub both : (a b : Bool) → a ≡ true → b ≡ true → (a && b) ≡ true
both true b ea eb = eb
both false b ea eb = absurd (true≢false (sym ea))

pub parts : (a b : Bool) → (a && b) ≡ true → (a ≡ true) × (b ≡ true)
parts true b h = (refl, h)
parts false b h = absurd (true≢false (sym h))

pub in-filter : (p : ℕ → Bool) (k : ℕ) (xs : List ℕ) → mem k xs ≡ true → p k ≡ true → mem k (filter p xs) ≡ true
in-filter p k xs listed passes = mem-filter p k xs ∙ both (mem k xs) (p k) listed passes

-- a number that passes makes some number pass
pub any-at : (p : ℕ → Bool) (k : ℕ) (xs : List ℕ) → mem k xs ≡ true → p k ≡ true → list_any p xs ≡ true
any-at p k [] listed passes = absurd (true≢false (sym listed))
any-at p k (x ∷ xs) listed passes = by (eqb k x) (p x) refl refl listed (λ h. any-at p k xs h passes)
  where
    by : (d b : Bool) → eqb k x ≡ d → p x ≡ b → (d || mem k xs) ≡ true → (mem k xs ≡ true → list_any p xs ≡ true) → (b || list_any p xs) ≡ true
    by d true e f h go = refl
    by true false e f h go = absurd (true≢false (sym passes ∙ (ap p (eqb-true k x e) ∙ f)))
    by false false e f h go = go h

pub in-front : (k : ℕ) (xs ys : List ℕ) → mem k xs ≡ true → mem k (xs ++ ys) ≡ true
in-front k xs ys h = mem-append_is k xs ys ∙ ap (λ b. b || mem k ys) h

pub in-back : (k : ℕ) (xs ys : List ℕ) → mem k ys ≡ true → mem k (xs ++ ys) ≡ true
in-back k xs ys h = mem-append_is k xs ys ∙ by (mem k xs) (mem k ys) h
  where
    by : (a b : Bool) → b ≡ true → (a || b) ≡ true
    by true b e = refl
    by false b e = e

-- a kept number stands in the whole
pub sub-mem : (k : ℕ) (xs ys : List ℕ) → Sub xs ys → mem k xs ≡ true → mem k ys ≡ true
sub-mem k xs ys s h = let i : In k xs = mem-In k xs h in let j : In k ys = omega (arith, i, sub-occurs k s) in In-mem k ys j

-- a number is drawn from the piece of some item
pub record Drawn {A : Type 0} (f : ℕ → Evaluation EvalFault A) (g : ℕ → A → List ℕ) (xs : List ℕ) (k : ℕ) : Type 0 where
  pub at : ℕ
  pub listed : mem at xs ≡ true
  pub value : A
  pub answer : (f at).answer ≡ Ok value
  pub drawn : mem k (g at value) ≡ true

-- an item gives its piece
pub record Given {A : Type 0} (f : ℕ → Evaluation EvalFault A) (g : ℕ → A → List ℕ) (ys : List ℕ) (x : ℕ) : Type 0 where
  pub value : A
  pub answer : (f x).answer ≡ Ok value
  pub keeps : (k : ℕ) → mem k (g x value) ≡ true → mem k ys ≡ true

module _ {A : Type 0} (f : ℕ → Evaluation EvalFault A) (g : ℕ → A → List ℕ) where
  abbrev all : ℕ → List ℕ → Evaluation EvalFault (List ℕ)
  all i xs = gather (λ _ x. f x) (λ _ x v. g x v) i xs

  given-one : (z x : ℕ) (v : A) (zs rest ys : List ℕ) → (f z).answer ≡ Ok v → g z v ++ rest ≡ ys → (mem x zs ≡ true → Given f g rest x) →
      (b : Bool) → eqb x z ≡ b → (b || mem x zs) ≡ true → Given f g ys x
  given-one z x v zs rest ys is joined more true e h =
      let same : x ≡ z = eqb-true x z e in
      record {
        value = v;
        answer = ap (λ q. (f q).answer) same ∙ is;
        keeps = λ k m. ap (mem k) (sym joined) ∙ in-front k (g z v) rest (ap (λ q. mem k (g q v)) (sym same) ∙ m);
      }
  given-one z x v zs rest ys is joined more false e h =
      let r = more h in
      record { value = r.value; answer = r.answer; keeps = λ k m. ap (mem k) (sym joined) ∙ in-back k (g z v) rest (r.keeps k m) }

  pub given : (i : ℕ) (xs ys : List ℕ) → (all i xs).answer ≡ Ok ys → (x : ℕ) → mem x xs ≡ true → Given f g ys x
  given i [] ys is x h = absurd (true≢false (sym h))
  given i (z ∷ zs) ys is x h =
      let one = came_before (f z) (λ v. bind (all (i + 1) zs) (λ rest. done (g z v ++ rest))) ys is in
      let more = came_before (all (i + 1) zs) (λ rest. done (g z one.first ++ rest)) ys one.then in
      given-one z x one.first zs more.first ys one.is (answered-done (g z one.first ++ more.first) ys more.then) (λ k. given (i + 1) zs more.first more.is x k) (eqb x z) refl h

  pub drawn : (i : ℕ) (xs ys : List ℕ) → (all i xs).answer ≡ Ok ys → (k : ℕ) → mem k ys ≡ true → Drawn f g xs k
  drawn i [] ys is k h = absurd (true≢false (sym h ∙ ap (mem k) (sym (answered-done [] ys is))))
  drawn i (z ∷ zs) ys is k h =
      let one = came_before (f z) (λ v. bind (all (i + 1) zs) (λ rest. done (g z v ++ rest))) ys is in
      let more = came_before (all (i + 1) zs) (λ rest. done (g z one.first ++ rest)) ys one.then in
      let joined : g z one.first ++ more.first ≡ ys = answered-done (g z one.first ++ more.first) ys more.then in
      ⊎_elim (λ (m : mem k (g z one.first) ≡ true). here one.first one.is m)
      (λ (m : mem k more.first ≡ true). there (drawn (i + 1) zs more.first more.is k m))
      (mem-append k (g z one.first) more.first (ap (mem k) joined ∙ h))
    where
      here : (v : A) → (f z).answer ≡ Ok v → mem k (g z v) ≡ true → Drawn f g (z ∷ zs) k
      here v e m = record { at = z; listed = ap (λ b. b || mem z zs) (eq-eqb z z refl); value = v; answer = e; drawn = m }

      there : Drawn f g zs k → Drawn f g (z ∷ zs) k
      there d = record { at = d.at; listed = in-back d.at (z ∷ []) zs d.listed; value = d.value; answer = d.answer; drawn = d.drawn }
