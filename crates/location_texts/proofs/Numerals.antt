-- The digits of a number, and the number that they write.
use Rattle.std.proofs.Common.{◌≡◌, ℕ, ◌<◌, ◌≤◌, ◌^◌, ◌+◌, ◌-◌, ◌*◌, ◌==◌, Bool, true, false, ◌||◌, List, [], ◌∷◌, length, refl, subst, arith}
use Rattle.std.specs.List.{fold}
use Rattle.std.specs.Char.{is_ascii_digit}
use Rattle.std.specs.Fmt.{decimal}
use Rattle.std.specs.Str.{all_ascii_digits}
use Rattle.std.proofs.lemmas.Bool.{eqb-true}
use Rattle.std.proofs.lemmas.Fmt.{decimal_nonempty, digits_decimal, digits_value-decimal}
use Rattle.std.proofs.lemmas.Str.Parse.{IsNumeralModel, numerals_by_fold, tells_all_ascii_digits}
use Rattle.xp_tree.specs.declared.numbers.TheConstants.{MAX_WHOLE}
use Rattle.xp_tree.specs.Decimals.{decimal_value}
use Rattle.xp_lexicon.specs.Lexicon.{are_digits, IsNumber, whole_number}
use Rattle.xp_types.specs.Terms.{has_point}
use Rattle.xp_print_laws.proofs.Fronts.{both}

abbrev AreDigits : List ℕ → Type 0
AreDigits digits = all_ascii_digits digits ≡ true

-- digits are read from the left
abbrev read_on : ℕ → List ℕ → ℕ
read_on value digits = fold (λ value digit. value * 10 + (digit - 48)) value digits

numerals : IsNumeralModel AreDigits decimal_value
numerals = numerals_by_fold AreDigits tells_all_ascii_digits read_on (record { empty = λ n. refl; more = λ n c cs k. refl })

small : (place : ℕ) → place ≤ MAX_WHOLE → place < 2 ^ 64
small place few = omega (arith, few)

some_digits : (digits : List ℕ) → 0 < length digits → all_ascii_digits digits ≡ true → are_digits digits ≡ true
some_digits [] some all = absurd (omega (arith, some))
some_digits (d ∷ digits) some all = all

no_point : (digits : List ℕ) → all_ascii_digits digits ≡ true → has_point digits ≡ false
no_point [] all = refl
no_point (d ∷ digits) all = by (d == 46) refl (no_point digits (both (is_ascii_digit d) (all_ascii_digits digits) all).1)
  where
    by : (b : Bool) → (d == 46) ≡ b → has_point digits ≡ false → (b || has_point digits) ≡ false
    by true is rest =
        absurd (let bad : false ≡ true = subst (λ c. is_ascii_digit c ≡ true) (eqb-true d 46 is) (both (is_ascii_digit d) (all_ascii_digits digits) all).0 in cc)
    by false is rest = rest

pub place-is_number : (place : ℕ) → place ≤ MAX_WHOLE → IsNumber (decimal place)
place-is_number place few =
    whole_number (decimal place) (some_digits (decimal place) (decimal_nonempty place (small place few)) (digits_decimal numerals place (small place few)))

pub place-without_point : (place : ℕ) → place ≤ MAX_WHOLE → has_point (decimal place) ≡ false
place-without_point place few = no_point (decimal place) (digits_decimal numerals place (small place few))

pub place-value : (place : ℕ) → place ≤ MAX_WHOLE → decimal_value (decimal place) ≡ place
place-value place few = digits_value-decimal numerals place (small place few)
