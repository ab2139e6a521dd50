-- When lets have the same outcome.
use Rattle.std.specs.Prelude.{Bool, true, false, not, Option, None, Some, Result, Ok, Err, bytes_eq}
use Rattle.std.specs.Ordering.{int_eq}
use Rattle.xp_values.specs.declared.numbers.Num.{Num}
use Rattle.xp_values.specs.declared.numbers.Num.TheVariants.{NaN, Whole}
use Rattle.xp_values.specs.declared.values.EvalFault.{EvalFault}
use Rattle.xp_values.specs.declared.values.EvalFault.TheVariants.{NotWhole, NumberRange, TextLimit}
use Rattle.xp_values.specs.declared.values.Value.{Value}
use Rattle.xp_values.specs.declared.values.Value.TheVariants.{NodeSet, Truth, Number, Chars}

abbrev pub same_truth : Bool → Bool → Bool
same_truth true other = other
same_truth false other = not other

-- NaN is the same as NaN here
abbrev pub same_number : Num → Num → Bool
same_number NaN NaN = true
same_number (Whole x) (Whole y) = int_eq x y
same_number _ _ = false

-- the same nodes by number, the same truth, number or text
abbrev pub same_value : Value → Value → Bool
same_value (NodeSet nodes) (NodeSet others) = bytes_eq nodes others
same_value (Truth truth) (Truth other) = same_truth truth other
same_value (Number number) (Number other) = same_number number other
same_value (Chars text) (Chars other) = bytes_eq text other
same_value _ _ = false

abbrev pub same_fault : EvalFault → EvalFault → Bool
same_fault NotWhole NotWhole = true
same_fault NumberRange NumberRange = true
same_fault TextLimit TextLimit = true
same_fault _ _ = false

abbrev pub same_result : Result Value EvalFault → Result Value EvalFault → Bool
same_result (Ok v) (Ok w) = same_value v w
same_result (Err f) (Err g) = same_fault f g
same_result _ _ = false

-- the outcomes of a let, or of two, are the same value or the same fault
abbrev pub same_outcome : Option (Result Value EvalFault) → Option (Result Value EvalFault) → Bool
same_outcome None None = true
same_outcome (Some outcome) (Some other) = same_result outcome other
same_outcome _ _ = false
