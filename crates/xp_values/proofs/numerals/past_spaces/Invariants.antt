use Rattle.std.proofs.Common.{◌≡◌, length}
use Rattle.xp_values.specs.Numerals.{is_space, past}
use Rattle.xp_values.proofs.numerals.past_spaces.Given as goal

abbrev pub invariant-loop-b : goal.invariant-loop-b
invariant-loop-b l = past is_space l.rest ≡ past is_space l.fn.text

abbrev pub decreases-loop-b : goal.decreases-loop-b
decreases-loop-b l = length l.rest
