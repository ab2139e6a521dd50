-- The numbers of places.
use Rattle.std.proofs.Common.{◌≡◌, ℕ, ◌+◌, ◌*◌, ◌≤◌, Bool, true, false, ◌&&◌, nat_le, cond, List, [], ◌∷◌, get_or, Option, None, Some, arith, refl}
use Rattle.std.specs.Char.{digit_value}
use Rattle.std.specs.Str.{all_ascii_digits}
use Rattle.std.specs.Str.Parse.{digits_value, digits_value_after}
use Rattle.std.proofs.lemmas.Bool.{and_parts}
use Rattle.std.proofs.lemmas.Bool.Decides.{nat_tests}
use Rattle.sch_base.specs.Numbers.{is_leading}
use Rattle.edit_script.specs.declared.limits.TheConstants.{MAX_PLACE}
use Rattle.edit_script.specs.Paths.{number_of}
use Rattle.edit_script.specs.WellFormed.{IsPlace}

-- the number is a place
abbrev pub IfPlace : Option ℕ → Type 0
IfPlace None = Unit {0}
IfPlace (Some number) = IsPlace number

more_digits : (n : ℕ) (digits : List ℕ) → n ≤ digits_value_after 10 n digits
more_digits n [] = omega arith
more_digits n (d ∷ digits) = omega (arith, more_digits (n * 10 + digit_value d) digits)

leads : (b : ℕ) → is_leading b ≡ true → 1 ≤ digit_value b
leads b is = grind (arith, nat_tests, is)

at_least : (text : List ℕ) → is_leading (get_or text 0 0) ≡ true → 1 ≤ digits_value 10 text
at_least [] is = absurd (cc)
at_least (b ∷ text) is = omega (arith, leads b is, more_digits (0 * 10 + digit_value b) text)

number_by : (text : List ℕ) (v : Bool) →
    (is_leading (get_or text 0 0) && all_ascii_digits text && nat_le (digits_value 10 text) MAX_PLACE) ≡ v →
    IfPlace (cond v (Some (digits_value 10 text)) None)
number_by text false is = tt
number_by text true is =
    let parts = and_parts (is_leading (get_or text 0 0) && all_ascii_digits text) _ is in
    let lead = and_parts (is_leading (get_or text 0 0)) _ parts.0 in
    record { low = at_least text lead.0; high = grind (arith, nat_tests, parts.1) }

pub number_made : (text : List ℕ) → IfPlace (number_of text)
number_made text = number_by text _ refl
