-- More digits make no smaller number.
use Rattle.std.proofs.Common.{ℕ, ◌+◌, ◌-◌, ◌*◌, arith}
use Rattle.std.proofs.lemmas.List.Sums.{fold_more}
use Rattle.xp_values.proofs.NumeralLemmas.{past_bound}
use Rattle.xp_values.proofs.numerals.bounded_value.Goals as goal

pub returns-then-value-gt-MAX_WHOLE : goal.returns-then-value-gt-MAX_WHOLE
returns-then-value-gt-MAX_WHOLE c =
    let with_digit : ℕ → ℕ → ℕ = λ value digit. value * 10 + (digit - 48) in
    let more = fold_more with_digit 0 c.args.digits.now c.loop-digit.digit-index 0 c.loop-digit-test.true in
    past_bound (c.loop-digit.digit-index + 1) c.args.digits.now (omega (arith, more))
