-- Numbers as a person writes them: decimal, without leading zeros, from 1 to a limit.
use Rattle.std.specs.Prelude.{ℕ, Bool, ◌&&◌, nat_le, if◌then◌else◌, List, Option, None, Some, slice_index}
use Rattle.std.specs.Str.{all_ascii_digits}
use Rattle.std.specs.Str.Parse.{digits_value}

-- a digit other than 0
abbrev pub is_leading : ℕ → Bool
is_leading b = nat_le 49 b && nat_le b 57

-- the number that a text says, from 1 to the limit; None where it says none
abbrev pub number_up_to : ℕ → List ℕ → Option ℕ
number_up_to limit text =
    if is_leading (slice_index text 0) && all_ascii_digits text && nat_le (digits_value 10 text) limit
    then Some (digits_value 10 text) else None
