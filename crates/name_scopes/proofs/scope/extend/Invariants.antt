use Rattle.std.proofs.Common.{◌≡◌, ◌+◌, ◌-◌, ℕ, None, get_or, vec_len}
use Rattle.name_scopes.proofs.scope.extend.Given as goal

abbrev pub invariant-loop-latest : goal.invariant-loop-latest
invariant-loop-latest l = (i : ℕ) → get_or l.latest.items i None ≡ get_or l.initial.latest.items i None

abbrev pub decreases-loop-latest : goal.decreases-loop-latest
decreases-loop-latest l = (l.number + 1) - vec_len l.latest
