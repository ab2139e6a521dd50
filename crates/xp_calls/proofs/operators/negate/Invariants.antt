use Rattle.std.proofs.Common.{◌≡◌}
use Rattle.xp_meaning.specs.Operators.{negated}
use Rattle.xp_calls.proofs.operators.negate.Given as goal

abbrev pub invariant-loop-left : goal.invariant-loop-left
invariant-loop-left l = negated l.signs l.initial.number ≡ negated l.left l.number

abbrev pub decreases-loop-left : goal.decreases-loop-left
decreases-loop-left l = l.left
