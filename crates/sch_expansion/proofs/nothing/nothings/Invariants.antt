-- It is known of the rules so far.
use Rattle.std.proofs.Common.{◌≡◌, length}
use Rattle.sch_expansion.specs.inner.Walks.{Nothings}
use Rattle.sch_expansion.proofs.nothing.nothings.Given as goal

abbrev pub invariant-loop-place : goal.invariant-loop-place
invariant-loop-place l = Nothings l.rules l.table.items × (length l.table.items ≡ l.place)
