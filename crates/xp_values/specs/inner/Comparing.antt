-- A lone value beside a text.
use Rattle.std.specs.Prelude.{Bool, Result, Ok}
use Rattle.xp_tree.specs.declared.operators.Comparison.{Comparison}
use Rattle.xp_values.specs.declared.numbers.Num.{Num}
use Rattle.xp_values.specs.declared.values.EvalFault.{EvalFault}
use Rattle.xp_values.specs.Comparisons.{number_test}
use Rattle.xp_values.specs.Outcomes.{then_of}

-- two numbers compared, where neither has a fault; the first fault is the answer
abbrev pub number_compared : Comparison → Result Num EvalFault → Result Num EvalFault → Result Bool EvalFault
number_compared op left right = then_of left (λ x. then_of right (λ y. Ok (number_test op x y)))
