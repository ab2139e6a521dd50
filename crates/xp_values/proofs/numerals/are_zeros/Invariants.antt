use Rattle.std.proofs.Common.{◌≡◌, length}
use Rattle.xp_values.specs.Numerals.{are_zeros}
use Rattle.xp_values.proofs.numerals.are_zeros.Given as goal

-- the digits before these are 0
abbrev pub invariant-loop-digits : goal.invariant-loop-digits
invariant-loop-digits l = are_zeros l.digits ≡ are_zeros l.fn.digits

abbrev pub decreases-loop-digits : goal.decreases-loop-digits
decreases-loop-digits l = length l.digits
