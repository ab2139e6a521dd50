-- Zeros after the point leave the whole number, in its range or not.
use Rattle.std.proofs.Common.{sym, ap, ◌∙◌, rules, w64}
use Rattle.std.specs.Prelude.{FitsSigned}
use Rattle.std.proofs.lemmas.Int.{to_z-of_z}
use Rattle.xp_values.specs.Numbers.{whole_number}
use Rattle.xp_values.proofs.NumeralLemmas.{written_bounded, written_past}
use Rattle.xp_values.proofs.numerals.number_written.Goals as goal

pub returns-in-Some-clause-value : goal.returns-in-Some-clause-value
returns-in-Some-clause-value c =
    let fits : FitsSigned w64 c.signed.result = search rules in
    c.whole_number.ensures.value
    ∙ (ap whole_number (to_z-of_z w64 c.signed.result fits ∙ c.signed.ensures)
    ∙ written_bounded c.args.negative c.args.digits.now c.args.fraction.now c.in-Some.value (sym c.are_zeros.ensures ∙ c.if-not-are_zeros.false) (sym c.bounded_value.ensures ∙ c.in-Some.is))

pub returns-in-None-clause-value : goal.returns-in-None-clause-value
returns-in-None-clause-value c =
    written_past c.args.negative c.args.digits.now c.args.fraction.now (sym c.are_zeros.ensures ∙ c.if-not-are_zeros.false) (sym c.bounded_value.ensures ∙ c.in-None.is)
