-- Reads that were kept: under lets with one more in both tables, and those that a unit doesn't keep.
use Rattle.std.proofs.Common.{◌≡◌, ℕ, ◌≤◌, Bool, true, false, cond, List, [], ◌∷◌, length, eqb, Option, None, Some, Result, Ok, refl, sym, ◌∙◌, subst, eqb-true, arith}
use Rattle.std.specs.Prelude.{filter, nat_lt}
use Rattle.std.proofs.lemmas.List.{get_or_past}
use Rattle.std.proofs.lemmas.Bool.{eqb-false, ltb-false}
use Rattle.doc_tree.specs.cell.Cell.{Cell}
use Rattle.doc_tree.specs.Table.{Table}
use Rattle.doc_edit_laws.specs.Agreement.{AllStay}
use Rattle.xp_outcome.specs.Evaluation.{Read, cell, names_along, variable}
use Rattle.xp_outcome.specs.Slots.{in_slot, with_slot}
use Rattle.xp_outcome.proofs.SlotLemmas.{others_stay, put_there}
use Rattle.xp_values.specs.declared.values.Value.{Value}
use Rattle.xp_values.specs.declared.values.EvalFault.{EvalFault}
use Rattle.xp_meaning.specs.Conversions.{nodes_of}
use Rattle.xp_meaning.specs.Evaluation.{Lets}
use Rattle.xp_locality_laws.specs.Locality.{AllKept, Kept}
use Rattle.sch_units.specs.Units.{is_kept}

-- what a slot holds of a value
abbrev held : Value → Option (Result Value EvalFault)
held v = Some (Ok v)

same_value : (v w : Value) → held v ≡ held w → v ≡ w
same_value v w is = cc

-- past its end a table holds no let
pub no_let : (L : Lets) (slot : ℕ) → length L ≤ slot → in_slot L slot ≡ None
no_let L slot few = get_or_past L slot None few

module _ (T U : Table) (touched : Cell → Bool) where
  -- what was kept under two tables of lets was also kept under two others
  abbrev pub Fits : Lets → Lets → Lets → Lets → Type 0
  Fits P Q L M = (x : Read) → Kept T U touched P Q x → Kept T U touched L M x

  pub all-fit : (P Q L M : Lets) → Fits P Q L M → (xs : List Read) → AllKept T U touched P Q xs → AllKept T U touched L M xs
  all-fit P Q L M fits [] h = tt
  all-fit P Q L M fits (x ∷ xs) h = (fits x h.0, all-fit P Q L M fits xs h.1)

  -- so it is where a value whose nodes live in both trees is put into a slot of both
  pub fits_put : (P Q L M : Lets) (slot : ℕ) (v : Value) → AllStay T U (nodes_of v) → Fits P Q L M → Fits P Q (with_slot L slot (Ok v)) (with_slot M slot (Ok v))
  fits_put P Q L M slot v stay fits (cell c) h = h
  fits_put P Q L M slot v stay fits (names_along axis n) h = h
  fits_put P Q L M slot v stay fits (variable other) h = by (eqb other slot) refl
    where
      by : (b : Bool) → eqb other slot ≡ b → Kept T U touched (with_slot L slot (Ok v)) (with_slot M slot (Ok v)) (variable other)
      by true e =
          subst (λ s. Kept T U touched (with_slot L slot (Ok v)) (with_slot M slot (Ok v)) (variable s)) (sym (eqb-true other slot e)) (
            put_there L slot (Ok v) ∙ sym (put_there M slot (Ok v)),
            λ w is. subst (λ x. AllStay T U (nodes_of x)) (same_value v w (sym (put_there L slot (Ok v)) ∙ is)) stay,
          )
      by false e =
          let apart = eqb-false other slot e in
          let old = fits (variable other) h in
          (others_stay L slot other (Ok v) apart ∙ old.0 ∙ sym (others_stay M slot other (Ok v) apart), λ w is. old.1 w (sym (others_stay L slot other (Ok v) apart) ∙ is))

  -- where neither table has lets from a slot on, it is enough that the reads before it were kept
  pub kept_below : (L M : Lets) (count : ℕ) → length L ≤ count → length M ≤ count → (xs : List Read) →
      AllKept T U touched L M (filter (is_kept count) xs) → AllKept T U touched L M xs
  kept_below L M count few few_after [] h = tt
  kept_below L M count few few_after (cell c ∷ xs) h = (h.0, kept_below L M count few few_after xs h.1)
  kept_below L M count few few_after (names_along axis n ∷ xs) h = (h.0, kept_below L M count few few_after xs h.1)
  kept_below L M count few few_after (variable slot ∷ xs) h = by (nat_lt slot count) refl h (kept_below L M count few few_after xs)
    where
      by : (b : Bool) → nat_lt slot count ≡ b → AllKept T U touched L M (cond b (variable slot ∷ filter (is_kept count) xs) (filter (is_kept count) xs)) →
          (AllKept T U touched L M (filter (is_kept count) xs) → AllKept T U touched L M xs) → AllKept T U touched L M (variable slot ∷ xs)
      by true e h more = (h.0, more h.1)
      by false e h more =
          let past : count ≤ slot = ltb-false slot count e in
          let before = no_let L slot (omega (arith, past, few)) in
          let after = no_let M slot (omega (arith, past, few_after)) in
          ((before ∙ sym after, λ v is. absurd (let bad : None ≡ Some (Ok v) = sym before ∙ is in cc)), more h)
