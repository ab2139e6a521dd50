-- The slots that a let in force names are those of lets before it.
use Rattle.std.proofs.Common.{◌≡◌, ℕ, suc, ◌+◌, ◌<◌, ◌≤◌, Bool, true, false, cond, ◌||◌, List, [], ◌∷◌, length, take, Option, Some, eqb, eqb-true, refl, subst, sym, true≢false, arith, length-take}
use Rattle.std.specs.Prelude.{All, slice_get}
use Rattle.std.specs.List.{AllByRecursion as Each}
use Rattle.std.proofs.lemmas.List.Elements.{All-append, All-cons, All-contains, All-nil}
use Rattle.xp_typed_tree.specs.declared.value_type.ValueType.{ValueType}
use Rattle.xp_typed_tree.specs.Slots.{slots_in}
use Rattle.xp_typed_tree.specs.WellTyped.{type_of}
use Rattle.xp_outcome.specs.Evaluation.{Read, cell, names_along, variable}
use Rattle.xp_outcome.specs.Slots.{in_slot}
use Rattle.xp_meaning.specs.Evaluation.{Lets}
use Rattle.xp_meaning_laws.specs.Agreeing.{SlotsAgree}
use Rattle.xp_meaning_laws.specs.KnownReads.{IsNamedRead, is_named}
use Rattle.sch_compiled.specs.declared.parts.LetInForce.{LetInForce}
use Rattle.sch_compiled.specs.declared.plan.Plan.{Plan}
use Rattle.sch_compiled.specs.Soundness.{AreSeen, IsSound, seen_from, seen_in, sees}
use Rattle.edit_costs.specs.Laws.{IsBefore}

-- a slot with a type that is below a number
abbrev pub Below : ℕ → ℕ × ValueType → Type 0
Below count s = s.0 < count

module _ (count : ℕ) where
  below-one : (b : Bool) (s : ℕ × ValueType) → s.0 < count → All (Below count) (cond b (s ∷ []) [])
  below-one true s less = All-cons (Below count) s [] less (All-nil (Below count))
  below-one false s less = All-nil (Below count)

  seen-below : (slot : ℕ) (here : Option ℕ) (lets : List LetInForce) → slot + length lets ≤ count → All (Below count) (seen_from slot here lets)
  seen-below slot here [] within = All-nil (Below count)
  seen-below slot here (t ∷ lets) within =
      All-append (Below count) (cond (sees here t.pattern) ((slot, type_of t.expr) ∷ []) []) (seen_from (suc slot) here lets)
      (below-one (sees here t.pattern) (slot, type_of t.expr) (omega arith)) (seen-below (suc slot) here lets (omega arith))

  named-below : (seen slots : List (ℕ × ValueType)) → All (Below count) seen → AreSeen seen slots → Each (Below count) slots
  named-below seen [] all are = tt
  named-below seen (s ∷ slots) all are =
      (All-contains (Below count) seen s all (are 0 s (omega arith)), named-below seen slots all (λ k d less. are (suc k) d (omega arith)))

  pub agree-below : (L M : Lets) (slots : List (ℕ × ValueType)) → ((before : ℕ) → before < count → in_slot L before ≡ in_slot M before) →
      Each (Below count) slots → SlotsAgree L M slots
  agree-below L M [] same each = tt
  agree-below L M (s ∷ slots) same each = (same s.0 each.0, agree-below L M slots same each.1)

  place-below : (slots : List (ℕ × ValueType)) (place : ℕ) → Each (Below count) slots → is_named slots place ≡ true → place < count
  place-below [] place each named = absurd (true≢false (sym named))
  place-below (s ∷ slots) place each named = by (eqb place s.0) refl named (place-below slots place each.1)
    where
      by : (b : Bool) → eqb place s.0 ≡ b → (b || is_named slots place) ≡ true → (is_named slots place ≡ true → place < count) → place < count
      by true e h rest = subst (λ n. n < count) (sym (eqb-true place s.0 e)) each.0
      by false e h rest = rest h

  read-before : (slots : List (ℕ × ValueType)) (r : Read) → Each (Below count) slots → IsNamedRead slots r → IsBefore count r
  read-before slots (cell c) each named = tt
  read-before slots (names_along axis n) each named = tt
  read-before slots (variable place) each named = place-below slots place each named

  pub reads-before : (slots : List (ℕ × ValueType)) (reads : List Read) → Each (Below count) slots → Each (IsNamedRead slots) reads →
      Each (IsBefore count) reads
  reads-before slots [] each named = tt
  reads-before slots (r ∷ reads) each named = (read-before slots r each named.0, reads-before slots reads each named.1)

-- the slots that a let in force of a sound plan names are below its own
pub own-below : (plan : Plan) (slot : ℕ) (t : LetInForce) → IsSound plan → slice_get plan.lets slot ≡ Some t → Each (Below slot) (slots_in t.expr)
own-below plan slot t sound there =
    let short : 0 + length (take slot plan.lets) ≤ slot = omega (arith, length-take slot plan.lets) in
    named-below slot (seen_in t.pattern (take slot plan.lets)) (slots_in t.expr) (seen-below slot 0 t.pattern (take slot plan.lets) short)
    (sound.let_slots slot t there)
