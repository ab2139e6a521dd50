use Rattle.std.proofs.Common.{ℕ, ◌<◌, ◌≤◌, get_or}
use Rattle.rule_run.proofs.classes.rest_of.Given as goal

abbrev pub invariant-loop-from : goal.invariant-loop-from
invariant-loop-from l = (r : ℕ) → l.from ≤ r → r < l.count → get_or l.levels r 255 < 255 × get_or l.levels r 255 ≤ l.needed

abbrev pub decreases-loop-from : goal.decreases-loop-from
decreases-loop-from l = l.from
