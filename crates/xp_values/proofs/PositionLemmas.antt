-- Characters at positions, as some passed over and some kept.
use Rattle.std.proofs.Common.{◌≡◌, ℕ, ℤ, pos, negsuc, ◌+◌, ◌-◌, ◌<◌, ◌≤◌, ◌+ℤ◌, suc, zero, Bool, true, false, List, [], ◌∷◌, length, take, drop, Option, None, Some, refl, ap, ◌∙◌, arith, add-zero}
use Rattle.std.specs.Prelude.{◌≤ℤ◌, ◌<ℤ◌, int_le, int_lt}
use Rattle.std.proofs.lemmas.Int.{ints}
use Rattle.xp_values.specs.declared.numbers.Num.{Num}
use Rattle.xp_values.specs.declared.numbers.Num.TheVariants.{NaN, Whole}
use Rattle.xp_values.specs.Texts.{at_positions, is_within}
use Rattle.xp_values.specs.inner.Positions.{positions_before, KeepsWithin}

none-of : (kept skipped : ℕ) → [] ≡ take kept (drop {A = ℕ} skipped [])
none-of zero zero = refl
none-of zero (suc skipped) = refl
none-of (suc kept) zero = refl
none-of (suc kept) (suc skipped) = refl

-- the positions that pass are those after so many, and so many of them
record Passes (keep : ℕ → Bool) (first skipped kept count : ℕ) : Type 0 where
  before : (i : ℕ) → i < skipped → keep (first + i) ≡ false
  within : (i : ℕ) → skipped ≤ i → i < skipped + kept → keep (first + i) ≡ true
  past : (i : ℕ) → skipped + kept ≤ i → i < count → keep (first + i) ≡ false

module _ (keep : ℕ → Bool) where
  at_range : (characters : List ℕ) (first skipped kept : ℕ) → Passes keep first skipped kept (length characters) → at_positions keep first characters ≡ take kept (drop skipped characters)
  at_range [] first skipped kept p = none-of kept skipped
  at_range (c ∷ characters) first zero zero p =
      let out : keep first ≡ false = rw add-zero at (p.past 0 (omega arith) (omega arith)) in
      let next : Passes keep (first + 1) zero zero (length characters) = record {
        before = λ i less. absurd (omega arith);
        within = λ i least less. absurd (omega arith);
        past = λ i least less. ap keep (omega arith) ∙ p.past (suc i) (omega arith) (omega arith);
      } in
      rw out (at_range characters (first + 1) zero zero next)
  at_range (c ∷ characters) first zero (suc kept) p =
      let kept_here : keep first ≡ true = rw add-zero at (p.within 0 (omega arith) (omega arith)) in
      let next : Passes keep (first + 1) zero kept (length characters) = record {
        before = λ i less. absurd (omega arith);
        within = λ i least less. ap keep (omega arith) ∙ p.within (suc i) (omega arith) (omega arith);
        past = λ i least less. ap keep (omega arith) ∙ p.past (suc i) (omega arith) (omega arith);
      } in
      rw kept_here (ap (λ l. c ∷ l) (at_range characters (first + 1) zero kept next))
  at_range (c ∷ characters) first (suc skipped) kept p =
      let out : keep first ≡ false = rw add-zero at (p.before 0 (omega arith)) in
      let next : Passes keep (first + 1) skipped kept (length characters) = record {
        before = λ i less. ap keep (omega arith) ∙ p.before (suc i) (omega arith);
        within = λ i least less. ap keep (omega arith) ∙ p.within (suc i) (omega arith) (omega arith);
        past = λ i least less. ap keep (omega arith) ∙ p.past (suc i) (omega arith) (omega arith);
      } in
      rw out (at_range characters (first + 1) skipped kept next)

le-true : (a b : ℤ) → a ≤ℤ b → int_le a b ≡ true
le-true a b h = grind (arith, ints)

le-false : (a b : ℤ) → b <ℤ a → int_le a b ≡ false
le-false a b h = grind (arith, ints)

lt-true : (a b : ℤ) → a <ℤ b → int_lt a b ≡ true
lt-true a b h = grind (arith, ints)

lt-false : (a b : ℤ) → b ≤ℤ a → int_lt a b ≡ false
lt-false a b h = grind (arith, ints)

before-le : (z : ℤ) (i : ℕ) → positions_before z ≤ i → z ≤ℤ pos (1 + i)
before-le (pos zero) i h = omega (arith, ints)
before-le (pos (suc n)) i h = omega (arith, ints)
before-le (negsuc n) i h = omega (arith, ints)

before-gt : (z : ℤ) (i : ℕ) → i < positions_before z → pos (1 + i) <ℤ z
before-gt (pos zero) i h = absurd (omega arith)
before-gt (pos (suc n)) i h = omega (arith, ints)
before-gt (negsuc n) i h = absurd (omega arith)

from-true : (z : ℤ) (i : ℕ) → positions_before z ≤ i → int_le z (pos (1 + i)) ≡ true
from-true z i h = le-true z (pos (1 + i)) (before-le z i h)

from-false : (z : ℤ) (i : ℕ) → i < positions_before z → int_le z (pos (1 + i)) ≡ false
from-false z i h = le-false z (pos (1 + i)) (before-gt z i h)

-- a NaN keeps none
keeps_none : (keep : ℕ → Bool) → ((i : ℕ) → keep i ≡ false) → (characters : List ℕ) → at_positions keep 1 characters ≡ []
keeps_none keep none characters =
    at_range keep characters 1 0 0 (record { before = λ i less. absurd (omega arith); within = λ i least less. absurd (omega arith); past = λ i least less. none (1 + i) })

pub keeps_none_from : (len : Option Num) (most : ℕ) → KeepsWithin NaN len most 0 0
keeps_none_from len most characters small = keeps_none (is_within NaN len) (λ i. refl) characters

pub keeps_none_of : (from : ℤ) (most : ℕ) → KeepsWithin (Whole from) (Some NaN) most 0 0
keeps_none_of from most characters small = keeps_none (is_within (Whole from) (Some NaN)) (λ i. refl) characters

pub keeps_all : (from : ℤ) (most : ℕ) → KeepsWithin (Whole from) None most (positions_before from) most
keeps_all from most characters small =
    at_range (is_within (Whole from) None) characters 1 (positions_before from) most (record {
      before = λ i less. from-false from i less;
      within = λ i least less. from-true from i least;
      past = λ i least less. absurd (omega (arith, small, least, less));
    })

pub keeps_some : (from len : ℤ) (most : ℕ) → KeepsWithin (Whole from) (Some (Whole len)) most (positions_before from) (positions_before (from +ℤ len) - positions_before from)
keeps_some from len most characters small =
    at_range (is_within (Whole from) (Some (Whole len))) characters 1 (positions_before from) (positions_before (from +ℤ len) - positions_before from) (record {
      before = λ i less. rw (from-false from i less) refl;
      within = λ i least less. rw (from-true from i least, lt-true (pos (1 + i)) (from +ℤ len) (before-gt (from +ℤ len) i (omega arith))) refl;
      past = λ i least less. rw (from-true from i (omega arith), lt-false (pos (1 + i)) (from +ℤ len) (before-le (from +ℤ len) i (omega arith))) refl;
    })
