-- Units under the lets in force of each tree: where a let has the same outcome in two trees, its nodes live in both.
use Rattle.std.proofs.Common.{◌≡◌, ℕ, zero, suc, ◌≤◌, Bool, true, false, List, [], ◌∷◌, ◌++◌, ◌⊎◌, length, take, min, Option, None, Some, Ok, refl, sym, ap, ◌∙◌, inl, inr, ⊎_elim, true≢false, length-take, arith}
use Rattle.std.specs.Prelude.{nat_lt}
use Rattle.std.specs.List.{AllByRecursion as Each}
use Rattle.std.proofs.lemmas.List.{get_or-take}
use Rattle.std.proofs.lemmas.Bool.{ltb-true, ltb-false}
use Rattle.doc_tree.specs.cell.Cell.{Cell}
use Rattle.doc_tree.specs.Laws.{Ordered}
use Rattle.doc_tree.specs.Lists.{mem}
use Rattle.doc_tree.specs.Table.{Table, is_live}
use Rattle.doc_tree.specs.Walks.{order}
use Rattle.doc_edit_laws.proofs.Composing.{of-both}
use Rattle.xp_outcome.specs.Evaluation.{Read, cell, names_along, variable}
use Rattle.xp_outcome.specs.Slots.{in_slot}
use Rattle.xp_values.specs.declared.values.Value.{Value}
use Rattle.xp_values.specs.declared.values.Value.TheVariants.{NodeSet, Truth, Number, Chars}
use Rattle.xp_meaning.specs.Conversions.{nodes_of}
use Rattle.xp_meaning.specs.Evaluation.{Lets, meaning}
use Rattle.xp_meaning.specs.Laws.{IsProper, LetsAreProper}
use Rattle.xp_meaning.proofs.Answers.{answer_visit}
use Rattle.xp_meaning.proofs.NodeSets.{values_are_proper}
use Rattle.xp_locality_laws.specs.Locality.{AllKept, Changed, Kept}
use Rattle.xp_locality_laws.proofs.TestLemmas.{stay-each}
use Rattle.xslt_locality_laws.proofs.Filters.{kept-listed}
use Rattle.sch_compiled.specs.declared.parts.LetInForce.{LetInForce}
use Rattle.sch_compiled.specs.declared.plan.Plan.{Plan}
use Rattle.sch_units.specs.Messages.{alone}
use Rattle.sch_units.specs.Units.{lets_from, lets_of, unit_let}
use Rattle.sch_units.proofs.LetsInOrder.{length-lets_from}
use Rattle.sch_locality_laws.specs.Locality.{GivenLetsAreLocal, OwnLetsAreLocal, Unchanged}
use Rattle.sch_locality_laws.proofs.KeptLemmas.{no_let}

-- in the first slots a let is found that is found in all, or none
take-slot : (count slot : ℕ) (L : Lets) → (in_slot (take count L) slot ≡ in_slot L slot) ⊎ (count ≤ slot)
take-slot count slot L = by (nat_lt slot count) refl
  where
    by : (b : Bool) → nat_lt slot count ≡ b → (in_slot (take count L) slot ≡ in_slot L slot) ⊎ (count ≤ slot)
    by true e = inl (get_or-take count L slot None (ltb-true slot count e))
    by false e = inr (ltb-false slot count e)

none_past : (count slot : ℕ) (L : Lets) → count ≤ slot → in_slot (take count L) slot ≡ None
none_past count slot L past = no_let (take count L) slot (let few : length (take count L) ≡ min count (length L) = length-take count L in omega (arith, few, past))

take-same : (count slot : ℕ) (L M : Lets) → in_slot L slot ≡ in_slot M slot → in_slot (take count L) slot ≡ in_slot (take count M) slot
take-same count slot L M e =
    ⊎_elim (λ (h : in_slot (take count L) slot ≡ in_slot L slot).
    ⊎_elim (λ (k : in_slot (take count M) slot ≡ in_slot M slot). h ∙ e ∙ sym k)
    (λ (past : count ≤ slot). none_past count slot L past ∙ sym (none_past count slot M past)) (take-slot count slot M))
    (λ (past : count ≤ slot). none_past count slot L past ∙ sym (none_past count slot M past)) (take-slot count slot L)

module _ (T : Table) (ord : Ordered T) where
  root-live : is_live T 0 ≡ true
  root-live = ord.live_in_order 0 ∙ ap (mem 0) ord.root_first.1

  nodes-live : (v : Value) → IsProper T v → (k : ℕ) → mem k (nodes_of v) ≡ true → is_live T k ≡ true
  nodes-live (NodeSet nodes) proper k h =
      ord.live_in_order k ∙ kept-listed (λ m. mem m nodes) k (order T) (sym (ap (mem k) proper) ∙ h)
  nodes-live (Truth truth) proper k h = absurd (true≢false (sym h))
  nodes-live (Number number) proper k h = absurd (true≢false (sym h))
  nodes-live (Chars characters) proper k h = absurd (true≢false (sym h))

  first-proper : (count : ℕ) (L : Lets) → LetsAreProper T L → LetsAreProper T (take count L)
  first-proper count L proper slot v is =
      ⊎_elim (λ (h : in_slot (take count L) slot ≡ in_slot L slot). proper slot v (sym h ∙ is))
      (λ (past : count ≤ slot). absurd (let bad : None ≡ Some (Ok v) = sym (none_past count slot L past) ∙ is in cc)) (take-slot count slot L)

  -- the outcomes of lets are proper, since each is one of an expression under those before it
  next-proper : (L : Lets) (t : LetInForce) → LetsAreProper T L → LetsAreProper T (L ++ Some (unit_let T L t.expr).answer ∷ [])
  next-proper L t proper slot v is =
      ⊎_elim (λ (h : in_slot L slot ≡ Some (Ok v)). proper slot v h)
      (λ (h : Some (unit_let T L t.expr).answer ≡ Some (Ok v)).
      values_are_proper T ord L t.expr (alone 0) v proper root-live root-live
      (sym (answer_visit (meaning T L t.expr (alone 0))) ∙ (let e : (unit_let T L t.expr).answer ≡ Ok v = cc in e)))
      (last-slot L (Some (unit_let T L t.expr).answer) slot (Ok v) is)
    where
      last-slot : {V : Type 0} (xs : List (Option V)) (o : Option V) (slot : ℕ) (v : V) → in_slot (xs ++ o ∷ []) slot ≡ Some v →
          (in_slot xs slot ≡ Some v) ⊎ (o ≡ Some v)
      last-slot [] o zero v h = inr h
      last-slot [] o (suc slot) v h = inl h
      last-slot (x ∷ xs) o zero v h = inl h
      last-slot (x ∷ xs) o (suc slot) v h = last-slot xs o slot v h

  lets_proper : (L : Lets) (ts : List LetInForce) → LetsAreProper T L → LetsAreProper T (lets_from T L ts)
  lets_proper L [] proper = proper
  lets_proper L (t ∷ ts) proper = lets_proper (L ++ Some (unit_let T L t.expr).answer ∷ []) ts (next-proper L t proper)

  own_proper : (plan : Plan) → LetsAreProper T (lets_of plan T)
  own_proper plan = lets_proper [] plan.lets (λ slot v is. absurd (cc))

module _ (T U : Table) (touched : Cell → Bool) (changed : Changed T U touched) where
  -- a let with the same outcome in both trees was kept, since its nodes are of both
  kept_slot : (L M : Lets) → LetsAreProper T L → LetsAreProper U M → (slot : ℕ) → in_slot L slot ≡ in_slot M slot → Kept T U touched L M (variable slot)
  kept_slot L M proper proper_after slot same = (
    same,
    λ v is. stay-each T U (nodes_of v) (λ k h.
        of-both (is_live T k) (is_live U k) (nodes-live T changed.before.ordered v (proper slot v is) k h)
        (nodes-live U changed.after.ordered v (proper_after slot v (sym same ∙ is)) k h)),
  )

  all_kept : (L M : Lets) → LetsAreProper T L → LetsAreProper U M → (plan : Plan) →
      ((slot : ℕ) → in_slot (lets_of plan T) slot ≡ in_slot (lets_of plan U) slot → in_slot L slot ≡ in_slot M slot) →
      (xs : List Read) → Each (Unchanged plan T U touched) xs → AllKept T U touched L M xs
  all_kept L M proper proper_after plan same [] h = tt
  all_kept L M proper proper_after plan same (cell c ∷ xs) h = (h.0, all_kept L M proper proper_after plan same xs h.1)
  all_kept L M proper proper_after plan same (names_along axis n ∷ xs) h = (h.0, all_kept L M proper proper_after plan same xs h.1)
  all_kept L M proper proper_after plan same (variable slot ∷ xs) h =
      (kept_slot L M proper proper_after slot (same slot h.0), all_kept L M proper proper_after plan same xs h.1)

pub own_lets_are_local : GivenLetsAreLocal → OwnLetsAreLocal
own_lets_are_local given = record {
  lets = λ plan T U touched count expr changed unchanged.
      let L = take count (lets_of plan T) in
      let M = take count (lets_of plan U) in
      (given.lets T U touched L M expr changed
      (all_kept T U touched changed L M (first-proper T changed.before.ordered count (lets_of plan T) (own_proper T changed.before.ordered plan))
      (first-proper U changed.after.ordered count (lets_of plan U) (own_proper U changed.after.ordered plan)) plan
      (λ slot e. take-same count slot (lets_of plan T) (lets_of plan U) e) (unit_let T L expr).reads unchanged)).same;
  pairs = λ plan T U touched p n changed typed here unchanged.
      given.pairs plan T U touched (lets_of plan T) (lets_of plan U) p n changed typed here
      (let few = length-lets_from T [] plan.lets in omega (arith, few)) (let few = length-lets_from U [] plan.lets in omega (arith, few))
      (all_kept T U touched changed (lets_of plan T) (lets_of plan U) (own_proper T changed.before.ordered plan) (own_proper U changed.after.ordered plan) plan
      (λ slot e. e) _ unchanged);
}
