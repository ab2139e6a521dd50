-- The operators of expressions as operators on values (XPath 1.0, sections 3.4 and 3.5).
use Rattle.std.specs.Prelude.{ℕ, zero, suc, pos, Result, Ok}
use Rattle.xp_tree.specs.declared.operators.ArithOp.TheVariants as operations
use Rattle.xp_values.specs.declared.numbers.Num.{Num}
use Rattle.xp_values.specs.declared.numbers.Num.TheVariants.{Whole}
use Rattle.xp_values.specs.declared.values.EvalFault.{EvalFault}
use Rattle.xp_values.specs.Numbers.{arith}
use Rattle.xp_values.specs.Outcomes.{then_of}

-- so many minus signs before a number: each takes the number from zero (section 3.5)
abbrev pub negated : ℕ → Num → Result Num EvalFault
negated zero n = Ok n
negated (suc signs) n = then_of (arith operations.Sub (Whole (pos 0)) n) (λ m. negated signs m)
