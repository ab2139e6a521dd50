-- Numbers (XPath 1.0, section 3.5): whole ones in a range, and NaN.
use Rattle.std.specs.Prelude.{ℤ, pos, ◌+ℤ◌, ◌-ℤ◌, ◌*ℤ◌, ◌≤◌, Result, Ok, Err, nat_le, unsigned_abs, int_rem, if◌then◌else◌}
use Rattle.std.specs.Ordering.{int_eq}
use Rattle.xp_values.specs.declared.numbers.Num.{Num}
use Rattle.xp_values.specs.declared.numbers.Num.TheVariants.{NaN, Whole}
use Rattle.xp_tree.specs.declared.operators.ArithOp.{ArithOp}
use Rattle.xp_tree.specs.declared.operators.ArithOp.TheVariants.{Add, Sub, Mul, Mod}
use Rattle.xp_tree.specs.declared.numbers.TheConstants.{MAX_WHOLE}
use Rattle.xp_values.specs.declared.values.EvalFault.{EvalFault}
use Rattle.xp_values.specs.declared.values.EvalFault.TheVariants.{NumberRange}

-- the number is NaN or at most the greatest one in size
abbrev pub InRange : Num → Type 0
InRange NaN = Unit {0}
InRange (Whole z) = unsigned_abs z ≤ MAX_WHOLE

-- a whole number where it lies in the range
abbrev pub whole_number : ℤ → Result Num EvalFault
whole_number z = if nat_le (unsigned_abs z) MAX_WHOLE then Ok (Whole z) else Err NumberRange

-- the remainder of a division that drops the fraction, with the dividend's sign; modulo 0 there is none
abbrev pub remainder : ℤ → ℤ → Result Num EvalFault
remainder x y = if int_eq y (pos 0) then Ok NaN else whole_number (int_rem x y)

abbrev pub combined : ArithOp → ℤ → ℤ → Result Num EvalFault
combined Add x y = whole_number (x +ℤ y)
combined Sub x y = whole_number (x -ℤ y)
combined Mul x y = whole_number (x *ℤ y)
combined Mod x y = remainder x y

-- two numbers combined; with NaN the result is NaN
abbrev pub arith : ArithOp → Num → Num → Result Num EvalFault
arith op NaN b = Ok NaN
arith op (Whole x) NaN = Ok NaN
arith op (Whole x) (Whole y) = combined op x y
