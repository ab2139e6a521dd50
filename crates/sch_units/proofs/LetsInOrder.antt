-- The outcomes of lets, each under those before it.
use Rattle.std.proofs.Common.{◌≡◌, ℕ, zero, suc, ◌+◌, ◌-◌, List, [], ◌∷◌, ◌++◌, length, take, refl, sym, ◌∙◌, ap, subst, append_assoc, append-nil, length-append, zero-add, arith}
use Rattle.std.proofs.Math.ListN.{replicate}
use Rattle.std.proofs.lemmas.List.{take_at}
use Rattle.std.specs.Prelude.{Option, Some, None, Result, slice_get, slice_set}
use Rattle.doc_tree.specs.Table.{Table}
use Rattle.xp_outcome.specs.Slots.{in_slot, with_slot}
use Rattle.xp_values.specs.declared.values.Value.{Value}
use Rattle.xp_values.specs.declared.values.EvalFault.{EvalFault}
use Rattle.xp_meaning.specs.Evaluation.{Lets}
use Rattle.sch_compiled.specs.declared.parts.LetInForce.{LetInForce}
use Rattle.sch_units.specs.Units.{unit_let, lets_from}

-- the value in the slot after some
slot_after : {V : Type 0} (xs ys : List (Option V)) (y : Option V) → in_slot (xs ++ y ∷ ys) (length xs) ≡ y
slot_after [] ys y = refl
slot_after (x ∷ xs) ys y = slot_after xs ys y

set_after : {V : Type 0} (xs : List (Option V)) (x y : Option V) → slice_set (xs ++ x ∷ []) (length xs) y ≡ xs ++ y ∷ []
set_after [] x y = refl
set_after (z ∷ xs) x y = ap (λ ys. z ∷ ys) (set_after xs x y)

-- a value put into the slot after the last one stands at the end
pub next_slot : (outcomes : Lets) (outcome : Result Value EvalFault) → with_slot outcomes (length outcomes) outcome ≡ outcomes ++ Some outcome ∷ []
next_slot outcomes outcome =
    let one : length outcomes + 1 - length outcomes ≡ 1 = omega arith in
    ap (λ k. slice_set (outcomes ++ replicate k None) (length outcomes) (Some outcome)) one ∙ set_after outcomes None (Some outcome)

module _ (T : Table) where
  -- what lets add to the outcomes before them
  added : (L : Lets) (ts : List LetInForce) → (more : Lets) × (lets_from T L ts ≡ L ++ more)
  added L [] = ([], sym (append-nil L))
  added L (t ∷ ts) =
      let rest = added (L ++ Some (unit_let T L t.expr).answer ∷ []) ts in
      (Some (unit_let T L t.expr).answer ∷ rest.0, rest.1 ∙ append_assoc L (Some (unit_let T L t.expr).answer ∷ []) rest.0)

  pub length-lets_from : (L : Lets) (ts : List LetInForce) → length (lets_from T L ts) ≡ length L + length ts
  length-lets_from L [] = omega arith
  length-lets_from L (t ∷ ts) =
      let one : length (L ++ Some (unit_let T L t.expr).answer ∷ []) ≡ length L + 1 = length-append L (Some (unit_let T L t.expr).answer ∷ []) in
      omega (arith, one, length-lets_from (L ++ Some (unit_let T L t.expr).answer ∷ []) ts)

  -- the let at a place is evaluated under the outcomes before it
  abbrev StandsAt : Lets → LetInForce → ℕ → Type 0
  StandsAt all t slot = in_slot all slot ≡ Some (unit_let T (take slot all) t.expr).answer

  first_stands : (L more : Lets) (t : LetInForce) → StandsAt ((L ++ Some (unit_let T L t.expr).answer ∷ []) ++ more) t (length L)
  first_stands L more t =
      let o = Some (unit_let T L t.expr).answer in
      subst (λ all. StandsAt all t (length L)) (sym (append_assoc L (o ∷ []) more))
      (slot_after L more o ∙ ap (λ M. Some (unit_let T M t.expr).answer) (sym (take_at L (o ∷ more) (length L) refl)))

  next_place : (L : Lets) (o : Option (Result Value EvalFault)) (k : ℕ) → length (L ++ o ∷ []) + k ≡ length L + suc k
  next_place L o k = let one : length (L ++ o ∷ []) ≡ length L + 1 = length-append L (o ∷ []) in omega (arith, one)

  pub stands : (L : Lets) (ts : List LetInForce) (k : ℕ) (t : LetInForce) → slice_get ts k ≡ Some t → StandsAt (lets_from T L ts) t (length L + k)
  stands L [] k t there = absurd (cc)
  stands L (s ∷ ts) zero t there =
      let o = Some (unit_let T L s.expr).answer in
      let rest = added (L ++ o ∷ []) ts in
      let same : s ≡ t = some-same s t there in
      let place : length L + zero ≡ length L = omega arith in
      subst (λ slot. StandsAt (lets_from T (L ++ o ∷ []) ts) t slot) (sym place)
      (subst (λ all. StandsAt all t (length L)) (sym rest.1)
      (subst (λ u. StandsAt ((L ++ o ∷ []) ++ rest.0) u (length L)) same (first_stands L rest.0 s)))
    where
      some-same : (u v : LetInForce) → Some u ≡ Some v → u ≡ v
      some-same u v is = cc
  stands L (s ∷ ts) (suc k) t there =
      let o = Some (unit_let T L s.expr).answer in
      subst (λ slot. StandsAt (lets_from T (L ++ o ∷ []) ts) t slot) (next_place L o k) (stands (L ++ o ∷ []) ts k t there)

-- the same of the lets of a plan
pub stands_first : (T : Table) (ts : List LetInForce) (k : ℕ) (t : LetInForce) → slice_get ts k ≡ Some t →
    in_slot (lets_from T [] ts) k ≡ Some (unit_let T (take k (lets_from T [] ts)) t.expr).answer
stands_first T ts k t there = subst (λ slot. StandsAt T (lets_from T [] ts) t slot) (zero-add k) (stands T [] ts k t there)
