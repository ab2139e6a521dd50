-- How a text is read as a number (XPath 1.0, sections 3.7 and 4.4): whitespace, a minus sign, digits with a point among,
-- before or after them, and whitespace.
use Rattle.std.specs.Prelude.{ℕ, ℤ, pos, neg_ℤ, ◌+◌, ◌==◌, Bool, false, ◌&&◌, ◌||◌, not, List, [], ◌∷◌, length, nat_le, Option, None, Some, Result, Ok, Err, if◌then◌else◌}
use Rattle.std.specs.List.{list_all}
use Rattle.xp_values.specs.declared.numbers.Num.{Num}
use Rattle.xp_values.specs.declared.numbers.Num.TheVariants.{NaN}
use Rattle.xp_values.specs.declared.values.EvalFault.{EvalFault}
use Rattle.xp_values.specs.declared.values.EvalFault.TheVariants.{NotWhole}
use Rattle.xp_tree.specs.declared.numbers.TheConstants.{MAX_WHOLE}
use Rattle.xp_tree.specs.Decimals.{decimal_value}
use Rattle.xp_values.specs.Numbers.{whole_number}

-- whitespace (XML 1.0, section 2.3)
abbrev pub is_space : ℕ → Bool
is_space b = b == 32 || b == 9 || b == 10 || b == 13

abbrev pub is_digit : ℕ → Bool
is_digit b = nat_le 48 b && nat_le b 57

-- the first bytes, as long as they pass a test, and what stands after them
abbrev pub front : (ℕ → Bool) → List ℕ → List ℕ
front test [] = []
front test (b ∷ bytes) = if test b then b ∷ front test bytes else []

abbrev pub past : (ℕ → Bool) → List ℕ → List ℕ
past test [] = []
past test (b ∷ bytes) = if test b then past test bytes else b ∷ bytes

-- whether a text begins with a minus sign, and what stands after it
abbrev pub has_minus : List ℕ → Bool
has_minus [] = false
has_minus (b ∷ bytes) = b == 45

abbrev pub past_minus : List ℕ → List ℕ
past_minus [] = []
past_minus (b ∷ bytes) = if b == 45 then bytes else b ∷ bytes

-- the digits after a point, where a text begins with a point, and what stands after them
abbrev pub fraction : List ℕ → List ℕ
fraction [] = []
fraction (b ∷ bytes) = if b == 46 then front is_digit bytes else []

abbrev pub past_fraction : List ℕ → List ℕ
past_fraction [] = []
past_fraction (b ∷ bytes) = if b == 46 then past is_digit bytes else b ∷ bytes

-- a number where it is at most the greatest one
abbrev pub bounded : ℕ → Option ℕ
bounded value = if nat_le value MAX_WHOLE then Some value else None

abbrev pub signed : Bool → ℕ → ℤ
signed negative value = if negative then neg_ℤ (pos value) else pos value

abbrev pub are_zeros : List ℕ → Bool
are_zeros digits = list_all (λ digit. digit == 48) digits

-- the number with these digits before and after its point
abbrev pub number_written : Bool → List ℕ → List ℕ → Result Num EvalFault
number_written negative digits fraction_digits =
    if are_zeros fraction_digits then whole_number (signed negative (decimal_value digits)) else Err NotWhole

-- the number before whitespace, with its digits before and after the point, and what stands after it
abbrev pub number_ended : Bool → List ℕ → List ℕ → List ℕ → Result Num EvalFault
number_ended negative digits fraction_digits rest =
    if not (length digits + length fraction_digits == 0) && list_all is_space rest then number_written negative digits fraction_digits
    else Ok NaN

abbrev pub unsigned_number : Bool → List ℕ → Result Num EvalFault
unsigned_number negative text =
    let rest = past is_digit text in number_ended negative (front is_digit text) (fraction rest) (past_fraction rest)

-- the number that a text is read as: NaN for a text of another form
abbrev pub text_to_number : List ℕ → Result Num EvalFault
text_to_number text = let trimmed = past is_space text in unsigned_number (has_minus trimmed) (past_minus trimmed)
