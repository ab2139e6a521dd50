-- A text that is parsed as a number says that number.
use Rattle.std.proofs.Common.{◌≡◌, ◌≢◌, ℕ, ◌<◌, ◌^◌, Bool, true, false, nat_le, cond, List, [], ◌∷◌, length, get_or, Option, None, Some, Result, Ok, Err, arith, refl}
use Rattle.std.specs.Str.{all_ascii_digits}
use Rattle.std.specs.Str.Parse.{ParsesUnsigned, digits_value}
use Rattle.std.proofs.lemmas.Bool.Decides.{nat_tests}
use Rattle.std.proofs.lemmas.Str.Parse.{IsNumeralModel, numerals_by_value, tells_all_ascii_digits, parse_plain}
use Rattle.sch_base.specs.Numbers.{is_leading, number_up_to}

own : IsNumeralModel (λ ds. all_ascii_digits ds ≡ true) (digits_value 10)
own = numerals_by_value _ tells_all_ascii_digits

-- a number as it is parsed, if it isn't too great
abbrev pub number_from : {E : Type 0} → ℕ → Result ℕ E → Option ℕ
number_from limit (Ok number) = cond (nat_le number limit) (Some number) None
number_from limit (Err error) = None

no_sign : (b : ℕ) → is_leading b ≡ true → b ≢ 43
no_sign b is = λ same. grind (arith, nat_tests, is, same)

some_byte : (text : List ℕ) → is_leading (get_or text 0 0) ≡ true → 0 < length text
some_byte [] is = absurd (cc)
some_byte (b ∷ text) is = omega arith

small : (limit n : ℕ) → limit < 2 ^ 32 → nat_le n limit ≡ true → n < 2 ^ 32
small limit n fits is = grind (arith, nat_tests, fits, is)

number_err : (limit : ℕ) (text : List ℕ) (v w : Bool) → limit < 2 ^ 32 → all_ascii_digits text ≡ v → nat_le (digits_value 10 text) limit ≡ w →
    is_leading (get_or text 0 0) ≡ true →
    ((all_ascii_digits text ≡ true) × (0 < length text) × (digits_value 10 text < 2 ^ 32) → ⊥) → number_up_to limit text ≡ None
number_err limit text true true fits all few lead none = absurd (none (all, some_byte text lead, small limit (digits_value 10 text) fits few))
number_err limit text true false fits all few lead none = rw (lead, all, few) refl
number_err limit text false w fits all few lead none = rw (lead, all) refl

-- what is parsed is the number
pub number_parsed : {E : Type 0} → (limit : ℕ) (text : List ℕ) (r : Result ℕ E) → limit < 2 ^ 32 → is_leading (get_or text 0 0) ≡ true →
    ParsesUnsigned 32 10 text r → number_up_to limit text ≡ number_from limit r
number_parsed {E = E} limit text (Ok number) fits lead parses =
    let is = parse_plain own {E = E} 32 text (Ok number) parses (no_sign (get_or text 0 0) lead) in
    rw (lead, is.0.0, is.1) refl
number_parsed {E = E} limit text (Err error) fits lead parses =
    number_err limit text (all_ascii_digits text) (nat_le (digits_value 10 text) limit) fits refl refl lead
    (parse_plain own {E = E} 32 text (Err error) parses (no_sign (get_or text 0 0) lead))
