use Rattle.std.proofs.Common.{◌≡◌}
use Rattle.xp_outcome.specs.Slots.{trimmed}
use Rattle.xp_outcome.proofs.slots.trim.Given as goal

abbrev pub invariant-loop-slots : goal.invariant-loop-slots
invariant-loop-slots g l = trimmed l.slots.items ≡ trimmed l.initial.slots.items

abbrev pub decreases-loop-slots : goal.decreases-loop-slots
decreases-loop-slots g l = goal.left-loop-slots g l
