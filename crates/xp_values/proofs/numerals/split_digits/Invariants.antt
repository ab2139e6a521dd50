use Rattle.xp_values.specs.Numerals.{is_digit}
use Rattle.xp_values.proofs.NumeralLemmas.{Passed}
use Rattle.xp_values.proofs.numerals.split_digits.Given as goal

abbrev pub invariant-loop-i : goal.invariant-loop-i
invariant-loop-i l = Passed is_digit l.text l.i
