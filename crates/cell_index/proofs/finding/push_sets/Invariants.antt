-- Of the hints so far those that are wanted are gathered.
use Rattle.std.proofs.Common.{ℕ}
use Rattle.cell_index.specs.inner.Gathering.{Gathers}
use Rattle.cell_index.specs.inner.Sharing.{set_has}
use Rattle.cell_index.proofs.finding.push_sets.Given as goal

abbrev pub invariant-loop-set : goal.invariant-loop-set
invariant-loop-set l = Gathers (λ (set : ℕ). set_has l.sets set l.cell) l.set-items l.set-index l.fn.found.items l.found.items
