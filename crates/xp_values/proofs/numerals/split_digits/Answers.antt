-- The first byte that is no digit begins what stands after the digits.
use Rattle.std.proofs.Common.{refl, sym, ◌∙◌, get_or}
use Rattle.xp_values.specs.Numerals.{is_digit}
use Rattle.xp_values.proofs.NumeralLemmas.{passed_none, passed_more, passed_front, passed_past, passed_all}
use Rattle.xp_values.proofs.numerals.split_digits.Goals as goal

pub loop-i-init : goal.loop-i-init
loop-i-init c = passed_none is_digit c.args.text.now

pub loop-i-preserved : goal.loop-i-preserved
loop-i-preserved c =
    passed_more is_digit c.args.text.now c.loop-i.i c.loop-i.invariant (get_or c.args.text.now c.loop-i.i 0) c.loop-i-test.true refl
    (sym c.is_digit.ensures ∙ c.if-not-is_digit.false)

pub returns-then-not-is_digit-clause-digits : goal.returns-then-not-is_digit-clause-digits
returns-then-not-is_digit-clause-digits c =
    c.split_at.ensures.front
    ∙ passed_front is_digit c.args.text.now c.loop-i.i c.loop-i.invariant (get_or c.args.text.now c.loop-i.i 0) c.loop-i-test.true refl
    (sym c.is_digit.ensures ∙ c.if-not-is_digit.true)

pub returns-then-not-is_digit-clause-rest : goal.returns-then-not-is_digit-clause-rest
returns-then-not-is_digit-clause-rest c =
    c.split_at.ensures.back
    ∙ passed_past is_digit c.args.text.now c.loop-i.i c.loop-i.invariant (get_or c.args.text.now c.loop-i.i 0) c.loop-i-test.true refl
    (sym c.is_digit.ensures ∙ c.if-not-is_digit.true)

pub returns : goal.returns
returns c =
    let all = passed_all is_digit c.args.text.now c.loop-i.i c.loop-i.invariant c.loop-i-test.false in record { digits = all.0; rest = all.1 }
